use Rattle.std.proofs.Common.{◌≡◌, ◌+◌, ◌*◌, ◌/◌, ◌%◌, ◌*ℤ◌, ap, ◌∙◌, length-set, to_z, of_z, arith}
use Rattle.std.specs.Int.{w64}
use Rattle.std.proofs.lemmas.Int.{to_z-of_z}
use Rattle.tensor_values.specs.Values.{value_in}
use Rattle.tensor_dots.specs.Products.{with_product}
use Rattle.tensor_dots.proofs.ListWrites.{stored, set-next, set-rest}
use Rattle.tensor_dots.proofs.dots.wide_eight.add_eight.Goals as goal

pub loop-t-preserved : goal.loop-t-preserved
loop-t-preserved c =
    let t = c.loop-t.t in
    let factor = to_z w64 (of_z w64 c.args.factor) in
    let x = value_in c.args.a.now (c.args.i + (t % 2 * 4 + t / 2)) *ℤ factor in
    let same = c.loop-t.invariant.2 t (omega arith) in
    let product : c.mul_add.result ≡ with_product (value_in c.loop-t.sums t) x =
    grind (arith, to_z-of_z) in (
      simp length-set (c.loop-t.invariant.0),
      set-next
          (λ s. with_product (value_in c.args.sums.now s) (value_in c.args.a.now (c.args.i + (s % 2 * 4 + s / 2))
          *ℤ factor))
          c.loop-t.sums t _ (omega arith) c.loop-t.invariant.1
          (stored c.mul_add.result _ product ∙ product ∙ ap (λ v. with_product v x) same),
      λ s h. set-rest c.loop-t.sums t _ s (omega arith) ∙ c.loop-t.invariant.2 s (omega arith),
    )
