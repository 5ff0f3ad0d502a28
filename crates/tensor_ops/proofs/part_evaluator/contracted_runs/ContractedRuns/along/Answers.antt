use Rattle.std.proofs.Common.{◌≡◌, ◌*◌, ℕ, List, ap, sym, ◌∙◌, arith}
use Rattle.tensor_kernels.specs.Contracting.{contraction_value}
use Rattle.tensor_shape.specs.Index.{size_of, index_of}
use Rattle.tensor_shape.proofs.Places.{place-index_of, IsIndexOf-index_of}
use Rattle.tensor_ops.specs.private.Lowering.{contraction_at}
use Rattle.tensor_terms.specs.Merged.{dims_at}
use Rattle.tensor_ops.proofs.PartValues.{in-order, dims-in-order, fronted-size, lie-in-runs}
use Rattle.tensor_ops.proofs.part_evaluator.contracted_runs.ContractedRuns.along.Goals as goal

pub invariant_of-result : goal.invariant_of-result
invariant_of-result c =
    let axes : List ℕ = c.args.axes.now in
    let ds : List ℕ = c.args.dims.now in
    let whole : c.size-length.result * c.size-count.result ≡ size_of ds =
    ap (λ n. n * c.size-count.result) (c.size-length.ensures.value ∙ ap size_of c.dims_at.ensures)
    ∙ ap (λ n. size_of (dims_at axes ds) * n)
    (c.size-count.ensures.value ∙ ap size_of c.other_dims.ensures)
    ∙ sym (fronted-size axes ds ds (contraction_at c.args.contraction ds) c.requires.axes
    (dims-in-order axes ds c.requires.axes c.requires.first)) in
    record {
      whole = c.requires.count ∙ sym whole;
      few = omega (arith, whole, c.size-values.ensures.value, c.size-values.ensures.small);
    }

pub returns : goal.returns
returns c =
    let axes : List ℕ = c.args.axes.now in
    let ds : List ℕ = c.args.dims.now in
    let at = contraction_value c.args.contraction in
    let f = contraction_at c.args.contraction ds in
    lie-in-runs axes ds ds f c.requires.axes
    (dims-in-order axes ds c.requires.axes c.requires.first) at _ _
    (λ p below.
    ap at (sym (place-index_of ds p below))
    ∙ ap f (sym (in-order axes ds c.requires.axes c.requires.first (index_of ds p)
    (IsIndexOf-index_of ds p below))))
    (c.size-length.ensures.value ∙ ap size_of c.dims_at.ensures)
    (c.size-count.ensures.value ∙ ap size_of c.other_dims.ensures)
