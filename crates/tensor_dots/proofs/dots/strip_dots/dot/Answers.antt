use Rattle.std.proofs.Common.{◌≡◌, ◌+ℤ◌, ◌*ℤ◌, sym, ◌∙◌, arith}
use Rattle.std.proofs.lemmas.Int.{to_z-of_z}
use Rattle.tensor_shape.specs.Wrap.{wrap}
use Rattle.tensor_values.specs.Values.{value_in}
use Rattle.tensor_dots.proofs.ListWrites.{stored}
use Rattle.tensor_dots.proofs.ProductSums.{wrap-next}
use Rattle.tensor_dots.proofs.dots.strip_dots.dot.Goals as goal

pub loop-q-preserved : goal.loop-q-preserved
loop-q-preserved c =
    let q = c.loop-q.q in
    let product : c.mul_add-sum.result ≡ wrap (c.loop-q.sum
    +ℤ (value_in c.args.a.now q *ℤ value_in c.args.b.now q)) =
    grind (arith, to_z-of_z) in
    let next = wrap-next (λ q. value_in c.args.a.now q *ℤ value_in c.args.b.now q)
    q c.loop-q.sum c.mul_add-sum.result (sym c.loop-q.sum-is ∙ c.loop-q.invariant) product in
    stored _ _ next ∙ next
