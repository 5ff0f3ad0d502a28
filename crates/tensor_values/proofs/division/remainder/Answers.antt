use Rattle.std.proofs.Common.{◌≡◌, ◌≢◌, ◌∙◌, ap, sym, true, false, ℤ, pos, ◌+ℤ◌}
use Rattle.std.specs.Prelude.{int_rem}
use Rattle.std.specs.Int.{w64}
use Rattle.std.proofs.lemmas.Int.{to_z-of_z, rem_is}
use mir.Val.{of_z, to_z}
use Rattle.tensor_values.specs.private.Rounding.{is_rounded_up}
use Rattle.tensor_values.proofs.Floors.{rem_fits, sum_fits, test_is}
use Rattle.tensor_values.proofs.Floors.{remainder-rounded_up, remainder-kept}
use Rattle.tensor_values.proofs.division.remainder.Goals as goal

pub returns-then-is_rounded_up : goal.returns-then-is_rounded_up
returns-then-is_rounded_up c =
    let some : c.args.y ≢ pos 0 = λ is. c.if-y-eq0.false (ap (of_z w64) is) in
    let test : is_rounded_up (int_rem c.args.x c.args.y) c.args.y ≡ true =
    sym (test_is c.args.x c.args.y c.ranges.x c.ranges.y)
    ∙ sym c.is_rounded_up.ensures ∙ c.if-is_rounded_up.true in
    ap (λ (r : ℤ). to_z w64 (of_z w64 (r +ℤ to_z w64 (of_z w64 c.args.y))))
    (rem_is w64 c.args.x c.args.y c.ranges.x c.ranges.y)
    ∙ ap (λ (y : ℤ). to_z w64 (of_z w64 (int_rem c.args.x c.args.y +ℤ y)))
    (to_z-of_z w64 c.args.y c.ranges.y)
    ∙ to_z-of_z w64 (int_rem c.args.x c.args.y +ℤ c.args.y)
    (sum_fits (int_rem c.args.x c.args.y) c.args.y
    (rem_fits c.args.x c.args.y c.ranges.x) c.ranges.y test)
    ∙ sym (remainder-rounded_up c.args.x c.args.y some test)

pub returns-else-is_rounded_up : goal.returns-else-is_rounded_up
returns-else-is_rounded_up c =
    let some : c.args.y ≢ pos 0 = λ is. c.if-y-eq0.false (ap (of_z w64) is) in
    let test : is_rounded_up (int_rem c.args.x c.args.y) c.args.y ≡ false =
    sym (test_is c.args.x c.args.y c.ranges.x c.ranges.y)
    ∙ sym c.is_rounded_up.ensures ∙ c.if-is_rounded_up.false in
    rem_is w64 c.args.x c.args.y c.ranges.x c.ranges.y
    ∙ sym (remainder-kept c.args.x c.args.y some test)
