use Rattle.std.proofs.Common.{◌≡◌, ℕ, zero, suc, ℤ, ◌+ℤ◌, ◌-ℤ◌, refl, ◌∙◌, arith}
use Rattle.tensor_shape.specs.Wrap.{wrap}
use Rattle.tensor_values.specs.Values.{value_in}
use Rattle.tensor_kernels.specs.private.Strassen.{quadrant_value}
use Rattle.tensor_kernels.specs.declared.tiling.strassen.products.Products.{Products}
use Rattle.tensor_kernels.proofs.Congruence.{wrap-three}
use Rattle.tensor_kernels.proofs.tiling.strassen.block.Block.sums.Goals as goal

-- the quadrant of the first half of the rows and of the columns
first_first : (p : Products) (r s k : ℕ) (v : ℤ) → r ≡ 0 → s ≡ 0
    → v ≡ wrap (wrap (wrap (value_in p.m1.items k +ℤ value_in p.m4.items k)
    +ℤ value_in p.m7.items k) -ℤ value_in p.m5.items k)
    → v ≡ wrap (quadrant_value p r s k)
first_first p zero zero k v row column is =
    is ∙ wrap-three (value_in p.m1.items k) (value_in p.m4.items k) (value_in p.m7.items k)
    (value_in p.m5.items k)
first_first p zero (suc s) k v row column is = absurd (omega (arith, column))
first_first p (suc r) s k v row column is = absurd (omega (arith, row))

-- and of the second halves
second_second : (p : Products) (r s k : ℕ) (v : ℤ) → (r ≡ 0 → ⊥) → (s ≡ 0 → ⊥)
    → v ≡ wrap (wrap (wrap (value_in p.m1.items k +ℤ value_in p.m3.items k)
    +ℤ value_in p.m6.items k) -ℤ value_in p.m2.items k)
    → v ≡ wrap (quadrant_value p r s k)
second_second p zero s k v row column is = absurd (row refl)
second_second p (suc r) zero k v row column is = absurd (column refl)
second_second p (suc r) (suc s) k v row column is =
    is ∙ wrap-three (value_in p.m1.items k) (value_in p.m3.items k) (value_in p.m6.items k)
    (value_in p.m2.items k)

pub returns-in-0-eq0-clause-each : goal.returns-in-0-eq0-clause-each
returns-in-0-eq0-clause-each c t below =
    rw (← c.in_half-s.ensures.which, ← c.in_half-s.ensures.column)
    (first_first c.args.self.now.products.now c.args.r c.in_half-s.result.0 _ _
    c.in-0-eq0.is-0 c.in-0-eq0.is-1
    (rw (
      c.deref.ensures.value,
      c.deref-in-0-eq0.ensures.value,
      c.deref-in-0-eq0-2.ensures.value,
      c.deref-in-0-eq0-3.ensures.value,
    ) at c.three_less_one.ensures.each t below))

pub returns-in_default-clause-each : goal.returns-in_default-clause-each
returns-in_default-clause-each c t below =
    rw (← c.in_half-s.ensures.which, ← c.in_half-s.ensures.column)
    (second_second c.args.self.now.products.now c.args.r c.in_half-s.result.0 _ _
    (c.in_default.is-0.1) (c.in_default.is-1.1)
    (rw (
      c.deref-in_default.ensures.value,
      c.deref-in_default-2.ensures.value,
      c.deref-in_default-3.ensures.value,
      c.deref-in_default-4.ensures.value,
    ) at c.three_less_one-in_default.ensures.each t below))
