use Rattle.std.proofs.Common.{◌≡◌, ◌+◌, ◌*◌, ◌+ℤ◌, ◌*ℤ◌, ℕ, ℤ, sym, ◌∙◌, arith}
use Rattle.std.proofs.lemmas.Int.{to_z-of_z}
use Rattle.tensor_shape.specs.Wrap.{wrap}
use Rattle.tensor_kernels.specs.private.Pairs.{lane}
use Rattle.tensor_dots.proofs.ListWrites.{stored}
use Rattle.tensor_dots.proofs.ProductSums.{wrap-next}
use Rattle.tensor_kernels.proofs.panels.pair_sums.sum_of_pairs.Goals as goal

pub loop-k-preserved : goal.loop-k-preserved
loop-k-preserved c =
    let row : ℕ → ℤ = lane c.args.height c.args.cells.now c.args.start in
    let k = c.loop-k.k in
    let product : c.mul_add-sum.result
    ≡ wrap (c.loop-k.sum +ℤ (row (2 * k) *ℤ row (2 * k + 1))) = grind (arith, to_z-of_z) in
    wrap-next (λ k. row (2 * k) *ℤ row (2 * k + 1)) k c.loop-k.sum _
    (sym c.loop-k.sum-is ∙ c.loop-k.invariant) (stored c.mul_add-sum.result _ product ∙ product)
