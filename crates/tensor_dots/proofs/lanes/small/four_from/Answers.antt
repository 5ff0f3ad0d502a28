use Rattle.std.proofs.Common.{◌≡◌, ℕ, zero, suc, ◌+◌, ◌<◌, ℤ, [], ◌∷◌, FitsSigned, to_z, of_z}
use Rattle.std.proofs.Common.{ap, sym, ◌∙◌, add-zero, arith}
use Rattle.std.specs.Int.{w32, w64}
use Rattle.std.proofs.lemmas.Int.{to_z-of_z}
use Rattle.tensor_values.specs.Values.{value_in}
use Rattle.tensor_dots.proofs.SimdLanes.{wide, widened}
use Rattle.tensor_dots.proofs.lanes.small.four_from.Goals as goal

-- each of four values
value_in-four : (f : ℕ → ℤ) (w x y z : ℤ) → w ≡ f 0 → x ≡ f 1 → y ≡ f 2 → z ≡ f 3 → (r : ℕ)
    → r < 4 → value_in (w ∷ x ∷ y ∷ z ∷ []) r ≡ f r
value_in-four f w x y z is_w is_x is_y is_z zero h = is_w
value_in-four f w x y z is_w is_x is_y is_z (suc zero) h = is_x
value_in-four f w x y z is_w is_x is_y is_z (suc (suc zero)) h = is_y
value_in-four f w x y z is_w is_x is_y is_z (suc (suc (suc zero))) h = is_z
value_in-four f w x y z is_w is_x is_y is_z (suc (suc (suc (suc r)))) h = absurd (omega arith)

-- to 32 bits and back
narrowed : (z : ℤ) → FitsSigned w32 z
    → to_z w64 (of_z w64 (to_z w32 (of_z w32 (to_z w64 (of_z w64 z))))) ≡ z
narrowed z fits =
    ap (λ v. to_z w64 (of_z w64 (to_z w32 (of_z w32 v)))) (to_z-of_z w64 z (wide z fits))
    ∙ widened z fits

pub returns-clause-each : goal.returns-clause-each
returns-clause-each c =
    let a = c.args.a.now in
    let i = c.args.i in
    let each = λ (k : ℕ) (below : k < 4). narrowed (value_in a (i + k))
    (c.requires.small (i + k) (omega (arith, c.requires.inside))) in
    value_in-four (λ r. value_in a (i + r)) _ _ _ _
    (narrowed (value_in a i) (c.requires.small i (omega (arith, c.requires.inside)))
    ∙ ap (value_in a) (sym (add-zero i)))
    (each 1 (omega arith)) (each 2 (omega arith)) (each 3 (omega arith))
