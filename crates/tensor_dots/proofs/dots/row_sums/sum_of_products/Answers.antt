use Rattle.std.proofs.Common.{◌≡◌, ◌+◌, ◌+ℤ◌, slice_index, sym, ◌∙◌, arith}
use Rattle.std.proofs.lemmas.Int.{to_z-of_z}
use Rattle.tensor_shape.specs.Wrap.{wrap}
use Rattle.tensor_dots.specs.private.RowPairs.{pair_product}
use Rattle.tensor_dots.proofs.ListWrites.{stored}
use Rattle.tensor_dots.proofs.ProductSums.{wrap-next}
use Rattle.tensor_dots.proofs.dots.row_sums.sum_of_products.Goals as goal

pub loop-q-preserved : goal.loop-q-preserved
loop-q-preserved c =
    let q = c.loop-q.q in
    let pair = c.args.pair.now in
    let here : pair.first.start + slice_index pair.first.offsets.now q + c.args.k
    ≡ pair.first.start + c.args.k + slice_index pair.first.offsets.now q = omega arith in
    let product : c.mul_add-sum.result
    ≡ wrap (c.loop-q.sum +ℤ pair_product pair c.args.k q) = grind (arith, to_z-of_z, here) in
    let next = wrap-next (pair_product pair c.args.k) q c.loop-q.sum c.mul_add-sum.result
    (sym c.loop-q.sum-is ∙ c.loop-q.invariant) product in
    stored _ _ next ∙ next
