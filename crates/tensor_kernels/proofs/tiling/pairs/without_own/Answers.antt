use Rattle.std.proofs.Common.{◌≡◌, ℕ, zero, suc, ◌+◌, ◌<◌, ℤ, pos, ◌-ℤ◌, neg_ℤ, List, [], ◌∷◌, map, to_z}
use Rattle.std.proofs.Common.{of_z, refl, ap, ◌∙◌, arith}
use Rattle.std.proofs.lemmas.Int.{int_wrap-add_left}
use Rattle.std.specs.Int.{w64}
use Rattle.tensor_values.specs.Values.{value_in}
use Rattle.tensor_shape.specs.Wrap.{wrap}
use Rattle.tensor_dots.proofs.SimdLanes.{lanes-bits, value_in-lanes}
use Rattle.tensor_kernels.proofs.tiling.pairs.without_own.Goals as goal

-- four zeros
at-zeros : (r : ℕ) → r < 4 → value_in (pos 0 ∷ pos 0 ∷ pos 0 ∷ pos 0 ∷ []) r ≡ pos 0
at-zeros zero h = refl
at-zeros (suc zero) h = refl
at-zeros (suc (suc zero)) h = refl
at-zeros (suc (suc (suc zero))) h = refl
at-zeros (suc (suc (suc (suc r)))) h = absurd (omega arith)

pub differences_of-less-requires-clause-y : goal.differences_of-less-requires-clause-y
differences_of-less-requires-clause-y c = lanes-bits _ c.rows_from.ensures.lanes

pub differences_of-requires-clause-x : goal.differences_of-requires-clause-x
differences_of-requires-clause-x c = lanes-bits _ c.differences_of-less.ensures.lanes

pub differences_of-requires-clause-y : goal.differences_of-requires-clause-y
differences_of-requires-clause-y c = lanes-bits _ c.spread.ensures.lanes

pub returns-clause-lanes : goal.returns-clause-lanes
returns-clause-lanes c = lanes-bits _ c.differences_of.ensures.lanes

pub returns-clause-each : goal.returns-clause-each
returns-clause-each c r h =
    let bits = λ (xs : List ℤ). value_in (map (to_z w64) (map (of_z w64) xs)) r in
    let row = value_in c.args.rows.now (c.args.i + r) in
    let rows : bits c.rows_from.result ≡ row =
    value_in-lanes _ c.rows_from.ensures.lanes r h ∙ c.rows_from.ensures.each r h in
    let column : bits c.spread.result ≡ value_in c.args.column.now 0 =
    value_in-lanes _ c.spread.ensures.lanes r h ∙ c.spread.ensures.each r h in
    let less : bits c.differences_of-less.result ≡ wrap (pos 0 -ℤ row) =
    value_in-lanes _ c.differences_of-less.ensures.lanes r h
    ∙ c.differences_of-less.ensures.each r h
    ∙ ap (λ z. wrap (z -ℤ bits c.rows_from.result)) (at-zeros r h)
    ∙ ap (λ z. wrap (pos 0 -ℤ z)) rows in
    value_in-lanes _ c.differences_of.ensures.lanes r h
    ∙ c.differences_of.ensures.each r h
    ∙ ap (λ z. wrap (z -ℤ bits c.spread.result)) less
    ∙ ap (λ z. wrap (wrap (pos 0 -ℤ row) -ℤ z)) column
    ∙ int_wrap-add_left w64 (pos 0 -ℤ row) (neg_ℤ (value_in c.args.column.now 0))
