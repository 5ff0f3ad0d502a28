use Rattle.std.proofs.Common.{◌≡◌, ◌≢◌, ◌∙◌, ap, sym, rules, true, false, ℤ, pos, negsuc, neg_ℤ, ◌-ℤ◌}
use Rattle.std.specs.Prelude.{int_div, int_rem}
use Rattle.std.specs.Int.{w64, int_wrap}
use Rattle.std.proofs.lemmas.Int.{wraps, to_z-of_z, quot_is, int_wrap_fits}
use mir.Val.{SFits, of_z, to_z}
use Rattle.tensor_values.specs.Division.{floor_quotient}
use Rattle.tensor_values.specs.private.Rounding.{is_rounded_up}
use Rattle.tensor_values.proofs.Floors.{floor_quotient-minus_one, floor_quotient-rounded_up}
use Rattle.tensor_values.proofs.Floors.{floor_quotient-kept, quotient_fits, lesser_fits, test_is}
use Rattle.tensor_values.proofs.division.floor_quotient.Goals as goal

pub returns-then-y-eqminus1 : goal.returns-then-y-eqminus1
returns-then-y-eqminus1 c =
    let one : c.args.y ≡ negsuc 0 =
    sym (to_z-of_z w64 c.args.y c.ranges.y) ∙ ap (to_z w64) c.if-y-eqminus1.true in
    let is : floor_quotient c.args.x c.args.y ≡ neg_ℤ c.args.x =
    floor_quotient-minus_one c.args.x c.args.y one in
    rw is (search (rules, wraps))

pub returns-then-is_rounded_up : goal.returns-then-is_rounded_up
returns-then-is_rounded_up c =
    let some : c.args.y ≢ pos 0 = λ is. c.if-y-eq0.false (ap (of_z w64) is) in
    let other : c.args.y ≢ negsuc 0 = λ is. c.if-y-eqminus1.false (ap (of_z w64) is) in
    let test : is_rounded_up (int_rem c.args.x c.args.y) c.args.y ≡ true =
    sym (test_is c.args.x c.args.y c.ranges.x c.ranges.y)
    ∙ sym c.is_rounded_up.ensures ∙ c.if-is_rounded_up.true in
    let fits : SFits w64 (int_div c.args.x c.args.y) =
    quotient_fits c.args.x c.args.y c.ranges.x other in
    let lesser : SFits w64 (int_div c.args.x c.args.y -ℤ pos 1) =
    lesser_fits c.args.x c.args.y c.ranges.x some other test in
    ap (λ (q : ℤ). to_z w64 (of_z w64 (q -ℤ pos 1)))
    (quot_is w64 c.args.x c.args.y c.ranges.x c.ranges.y fits)
    ∙ to_z-of_z w64 (int_div c.args.x c.args.y -ℤ pos 1) lesser
    ∙ sym (ap (int_wrap w64) (floor_quotient-rounded_up c.args.x c.args.y some test)
    ∙ int_wrap_fits w64 (int_div c.args.x c.args.y -ℤ pos 1) lesser)

pub returns-else-is_rounded_up : goal.returns-else-is_rounded_up
returns-else-is_rounded_up c =
    let some : c.args.y ≢ pos 0 = λ is. c.if-y-eq0.false (ap (of_z w64) is) in
    let other : c.args.y ≢ negsuc 0 = λ is. c.if-y-eqminus1.false (ap (of_z w64) is) in
    let test : is_rounded_up (int_rem c.args.x c.args.y) c.args.y ≡ false =
    sym (test_is c.args.x c.args.y c.ranges.x c.ranges.y)
    ∙ sym c.is_rounded_up.ensures ∙ c.if-is_rounded_up.false in
    let fits : SFits w64 (int_div c.args.x c.args.y) =
    quotient_fits c.args.x c.args.y c.ranges.x other in
    quot_is w64 c.args.x c.args.y c.ranges.x c.ranges.y fits
    ∙ sym (ap (int_wrap w64) (floor_quotient-kept c.args.x c.args.y some test)
    ∙ int_wrap_fits w64 (int_div c.args.x c.args.y) fits)
