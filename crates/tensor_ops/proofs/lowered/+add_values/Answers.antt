use Rattle.std.proofs.Common.{◌≡◌, arith}
use Rattle.tensor_ops.specs.private.Meaning.{meaning, count_of}
use Rattle.tensor_loops.proofs.InterleavedParts.{first-within, second-within, add-first, add-second}
use Rattle.tensor_ops.proofs.lowered.+add_values.Goals as goal

pub add_turns-add_values-requires : goal.add_turns-add_values-requires
add_turns-add_values-requires g t c κs within =
    let turns = c.args.turns in
    let end = c.end_after-end in
    let inside = first-within turns.first turns.second turns.some c.args.from c.loop-place.place end.result
    c.loop-place.invariant.above end.ensures.above (count_of c.args.first.now) (count_of c.args.second.now) c.requires.turns
    (omega (arith, end.ensures.below, c.requires.within)) c.if-is_of_first.ensures end.ensures.turn in (
      omega (arith, c.decreases),
      (within, (omega arith, (c.requires.first, omega (arith, inside, c.firsts_before-start.ensures)))),
    )

pub add_turns-add_values-requires-else-is_of_first : goal.add_turns-add_values-requires-else-is_of_first
add_turns-add_values-requires-else-is_of_first g t c κs within =
    let turns = c.args.turns in
    let end = c.end_after-end in
    let inside = second-within turns.first turns.second turns.some c.args.from c.loop-place.place end.result
    c.loop-place.invariant.above end.ensures.above (count_of c.args.first.now) (count_of c.args.second.now) c.requires.turns
    (omega (arith, end.ensures.below, c.requires.within)) c.if-is_of_first.ensures end.ensures.turn in (
      omega (arith, c.decreases),
      (within, (omega arith, (c.requires.second, omega (arith, inside, c.seconds_before-start.ensures)))),
    )

pub add_turns-loop-place-preserved-in_ok-add_values : goal.add_turns-loop-place-preserved-in_ok-add_values
add_turns-loop-place-preserved-in_ok-add_values g t c =
    let turns = c.args.turns in
    let inv = c.loop-place.invariant in
    let end = c.end_after-end in
    record {
      above = omega (arith, inv.above, end.ensures.above);
      below = end.ensures.below;
      items =
          add-first turns.first turns.second turns.some c.args.from c.loop-place.place end.result inv.above end.ensures.above
          (meaning c.args.first.now) (meaning c.args.second.now) c.firsts_before-start.result _ _ _ inv.items end.ensures.turn
          c.if-is_of_first.ensures c.firsts_before-start.ensures c.in_ok-add_values.ensures;
    }

pub add_turns-loop-place-preserved : goal.add_turns-loop-place-preserved
add_turns-loop-place-preserved g t c =
    let turns = c.args.turns in
    let inv = c.loop-place.invariant in
    let end = c.end_after-end in
    record {
      above = omega (arith, inv.above, end.ensures.above);
      below = end.ensures.below;
      items =
          add-second turns.first turns.second turns.some c.args.from c.loop-place.place end.result inv.above end.ensures.above
          (meaning c.args.first.now) (meaning c.args.second.now) c.seconds_before-start.result _ _ _ inv.items end.ensures.turn
          c.if-is_of_first.ensures c.seconds_before-start.ensures c.in_ok-add_values-2.ensures;
    }

pub add_turns-returns : goal.add_turns-returns
add_turns-returns g t c =
    let done : c.loop-place.place ≡ c.args.to = omega arith in
    rw (← done) c.loop-place.invariant.items
