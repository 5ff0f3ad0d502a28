use Rattle.std.proofs.Common.{◌≡◌, ◌+◌, ◌-◌, ◌*◌, map, take, drop, false, ap, ◌∙◌, arith}
use Rattle.std.specs.List.{range_with_len}
use Rattle.std.proofs.lemmas.Bool.{not-true}
use Rattle.tensor_values.specs.Values.{value_in}
use Rattle.tensor_views.specs.View.{steps_to}
use Rattle.tensor_values.proofs.Runs.{map-shifted, part-read, ok-appended}
use Rattle.tensor_loops.proofs.gather.gather_row.Goals as goal

-- a row without gaps is a part of the values
pub returns-then-from-to-clause-items : goal.returns-then-from-to-clause-items
returns-then-from-to-clause-items c =
    let axis = c.args.axis in
    let row = c.args.row in
    let from = c.args.from in
    let to = c.args.to in
    let values = c.args.values.now in
    let rises : axis.reversed ≡ false = not-true axis.reversed c.if-not-axis.true in
    let last = rw (rises, c.if-axis-eq1.true) at (c.requires.inside (to - 1) (omega arith) (omega arith)) in
    let long : row + to - (row + from) ≡ to - from = omega arith in
    let part : take (row + to - (row + from)) (drop (row + from) values)
    ≡ map (λ i. value_in values (row + steps_to axis i * axis.step)) (range_with_len from (to - from)) =
    part-read values (row + from) (row + to - (row + from)) (omega (arith, last))
    ∙ ap (λ n. map (value_in values) (range_with_len (row + from) n)) long
    ∙ map-shifted (value_in values) (λ i. value_in values (row + steps_to axis i * axis.step)) (row + from) from (to - from)
    (λ k below. ap (value_in values) (rw (rises, c.if-axis-eq1.true) (omega arith))) in
    ok-appended c.extend_from_slice.result _ _ _ _ c.extend_from_slice.ensures.items part
