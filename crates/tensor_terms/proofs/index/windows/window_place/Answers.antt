use Rattle.std.proofs.Common.{◌≡◌, ℕ, List, length, get_or, ap, ◌∙◌, arith}
use Rattle.tensor_shape.specs.Index.{place, index_of}
use Rattle.tensor_terms.specs.Convolution.{window_index}
use Rattle.tensor_terms.proofs.Moved.{get_or-legal}
use Rattle.tensor_terms.proofs.OtherAxes.{get_or-are_axes}
use Rattle.tensor_terms.proofs.Convolutions.{known, length-result, IsIndexOf-under, sum-under}
use Rattle.tensor_terms.proofs.Splits.{length-index_of}
use Rattle.tensor_terms.proofs.index.windows.window_place.Goals as goal

pub prove-unreachable-requires : goal.prove-unreachable-requires
prove-unreachable-requires c =
    c.if-prove.true (omega (
      arith,
      c.len.ensures.value,
      ap length c.index_of-index.ensures.value,
      length-index_of c.args.result_dims.now c.args.outer,
      length-result c.args.axes.now c.args.dims.now c.args.kernel.now c.args.result_dims.now
          c.requires.dims,
      ap length c.as_slice-sizes.ensures.value,
    ))

pub window_index-requires : goal.window_index-requires
window_index-requires c =
    let axes = c.args.axes.now in
    let ds = c.args.dims.now in
    let ks = c.args.kernel.now in
    let rs = c.args.result_dims.now in
    let is = known axes ds ks rs c.requires.dims in
    let top : c.as_slice.result.now ≡ index_of ks c.args.inner =
    c.as_slice.ensures.value ∙ c.index_of-top.ensures.value in
    let first : c.as_slice-2.result.now ≡ index_of rs c.args.outer =
    c.as_slice-2.ensures.value ∙ c.index_of-index.ensures.value in
    let rank : length c.as_slice-2.result.now ≡ length ds =
    ap length first ∙ length-index_of rs c.args.outer ∙ length-result axes ds ks rs c.requires.dims
    in
    record {
      few = omega (arith, rank, c.as_slice-sizes.ensures.legal.rank);
      same = ap length top ∙ length-index_of ks c.args.inner ∙ is.ranks;
      axes = λ k within.
          omega (arith, rank, get_or-are_axes (length ds) k axes is.legal within);
      small = λ k within.
          rw (top, first)
          (omega (
            arith,
            sum-under axes ds ks rs c.requires.dims c.args.outer c.args.inner c.requires.outer
                c.requires.inner k within,
            get_or-legal ds (get_or axes k 0) c.as_slice-sizes.ensures.legal
                (get_or-are_axes (length ds) k axes is.legal within),
          ));
    }

-- the index list under the kernel, from both
window_index-of : (axes js is top first found : List ℕ) → top ≡ js → first ≡ is → found ≡ window_index axes top first
    → found ≡ window_index axes js is
window_index-of axes js is top first found same_top same_first made =
    made ∙ ap (λ l. window_index axes l first) same_top ∙ ap (window_index axes js) same_first

pub linear-requires : goal.linear-requires
linear-requires c =
    let axes = c.args.axes.now in
    let ds = c.args.dims.now in
    let ks = c.args.kernel.now in
    let rs = c.args.result_dims.now in
    rw (window_index-of axes (index_of ks c.args.inner) (index_of rs c.args.outer) _ _ _
    (c.as_slice.ensures.value ∙ c.index_of-top.ensures.value)
    (c.as_slice-2.ensures.value ∙ c.index_of-index.ensures.value)
    (c.as_slice-3.ensures.value ∙ c.window_index.ensures))
    (IsIndexOf-under axes ds ks rs c.requires.dims c.args.outer c.args.inner c.requires.outer
    c.requires.inner)

pub returns-clause-value : goal.returns-clause-value
returns-clause-value c =
    c.linear.ensures.value
    ∙ ap (place c.args.dims.now) (window_index-of c.args.axes.now
    (index_of c.args.kernel.now c.args.inner) (index_of c.args.result_dims.now c.args.outer) _ _ _
    (c.as_slice.ensures.value ∙ c.index_of-top.ensures.value)
    (c.as_slice-2.ensures.value ∙ c.index_of-index.ensures.value)
    (c.as_slice-3.ensures.value ∙ c.window_index.ensures))
