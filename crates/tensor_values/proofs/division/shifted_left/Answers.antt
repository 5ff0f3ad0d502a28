use Rattle.std.proofs.Common.{◌≡◌, ◌∙◌, ap, sym, ℤ, pos, ◌*ℤ◌, ℕ, ◌^◌, ◌<◌}
use Rattle.std.specs.Prelude.{int_le, int_lt}
use Rattle.std.specs.Int.{w64, int_wrap}
use Rattle.std.proofs.lemmas.Int.{to_z-of_z}
use mir.Val.{of_z}
use Rattle.tensor_values.specs.Division.{places_of}
use Rattle.tensor_values.proofs.Shifts.{bits_shifted, places_of-within}
use Rattle.tensor_values.proofs.Shifts.{places_of-above, places_of-below, shifted_left-out}
use Rattle.tensor_values.proofs.division.shifted_left.Goals as goal
use Rattle.tensor_values.proofs.division.shifted_left.Goals.{else-count-ge0-via-then-count-ge0+else-count-lt64}
use Rattle.tensor_values.proofs.division.shifted_left.Goals.{else-count-ge0-via-else-count-ge0}

pub returns-then-count-lt64 : goal.returns-then-count-lt64
returns-then-count-lt64 c =
    let is = to_z-of_z w64 c.args.count c.ranges.count in
    let places : (places_of c.args.count ≡ of_z w64 c.args.count) × (of_z w64 c.args.count < 64) =
    places_of-within c.args.count
    (ap (int_le (pos 0)) (sym is) ∙ c.if-count-ge0.true)
    (ap (λ (z : ℤ). int_lt z (pos 64)) (sym is) ∙ c.if-count-lt64.true) in
    bits_shifted c.args.x (of_z w64 c.args.count) c.ranges.x places.1
    ∙ ap (λ (k : ℕ). int_wrap w64 (c.args.x *ℤ pos (2 ^ k))) (sym places.0)

pub returns-else-count-ge0 : goal.returns-else-count-ge0
returns-else-count-ge0 c =
    let is = to_z-of_z w64 c.args.count c.ranges.count in
    elim c.else-count-ge0.branch [
      | else-count-ge0-via-then-count-ge0+else-count-lt64 w ↦
          shifted_left-out c.args.x c.args.count (places_of-above c.args.count
          (ap (λ (z : ℤ). int_lt z (pos 64)) (sym is) ∙ w.if-count-lt64.false))
      | else-count-ge0-via-else-count-ge0 w ↦
          shifted_left-out c.args.x c.args.count (places_of-below c.args.count
          (ap (int_le (pos 0)) (sym is) ∙ w.if-count-ge0.false))
    ]
