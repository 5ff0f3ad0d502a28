use Rattle.std.proofs.Common.{◌≡◌, ℕ, List, ◌*◌, suc, take, get_or, ap, sym, ◌∙◌, arith, add-one}
use Rattle.tensor_shape.specs.Index.{size_of}
use Rattle.tensor_terms.proofs.Interleavings.{size_of-more, size_of-take-le}
use Rattle.tensor_terms.proofs.index.interleaved_index.width_along.Goals as goal

pub overflow_mul-result : goal.overflow_mul-result
overflow_mul-result c =
    let k : ℕ = c.args.axis in
    let ds : List ℕ = c.args.dims.now in
    let product : c.stride.result * get_or c.as_slice-sizes.result.now k 0 ≡ size_of (take (suc k) ds) =
    ap (λ n. n * get_or c.as_slice-sizes.result.now k 0) c.stride.ensures
    ∙ ap (λ l. size_of (take k ds) * get_or l k 0) c.as_slice-sizes.ensures.value ∙ sym (size_of-more k ds c.requires) in
    record { fits = omega (arith, product, size_of-take-le (suc k) ds c.as_slice-sizes.ensures.legal) }

pub returns : goal.returns
returns c =
    let k : ℕ = c.args.axis in
    let ds : List ℕ = c.args.dims.now in
    ap (λ n. n * get_or c.as_slice-sizes.result.now k 0) c.stride.ensures
    ∙ ap (λ l. size_of (take k ds) * get_or l k 0) c.as_slice-sizes.ensures.value ∙ sym (size_of-more k ds c.requires)
    ∙ ap (λ n. size_of (take n ds)) (sym (add-one k))
