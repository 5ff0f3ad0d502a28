-- How deep the operands are, and the values so far.
use Rattle.std.proofs.Common.{◌≡◌, ◌+◌, ◌-◌, ◌*◌, ◌≤◌, ◌++◌, map}
use Rattle.std.specs.List.{range_with_len}
use Rattle.tensor_ops.specs.private.Meaning.{meaning, depth_of}
use Rattle.tensor_values.specs.Interleaving.{interleaved}
use Rattle.tensor_ops.proofs.lowered.+add_values.Given as goal

abbrev pub decreases-add_values : goal.decreases-add_values
decreases-add_values g l = 2 * depth_of l.lowered.now

abbrev pub decreases-add_turns : goal.decreases-add_turns
decreases-add_turns g l = 2 * (depth_of l.first.now + depth_of l.second.now) + 1

abbrev pub invariant-add_turns-loop-place : goal.invariant-add_turns-loop-place
invariant-add_turns-loop-place g l = record {
  above : l.from ≤ l.place;
  below : l.place ≤ l.to;
  items : l.values.items ≡ l.initial.values.items
      ++ map (interleaved l.turns.first l.turns.second (meaning l.first) (meaning l.second)) (range_with_len l.from (l.place - l.from));
}

abbrev pub decreases-add_turns-loop-place : goal.decreases-add_turns-loop-place
decreases-add_turns-loop-place g l = l.to - l.place
