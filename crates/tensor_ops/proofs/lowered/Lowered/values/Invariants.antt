-- The values so far, and the room.
use Rattle.std.proofs.Common.{◌≡◌, ◌-◌, ◌≤◌, map}
use Rattle.std.specs.List.{range_with_len}
use Rattle.tensor_ops.specs.private.Meaning.{meaning}
use Rattle.tensor_ops.proofs.lowered.Lowered.values.Given as goal

abbrev pub invariant-loop-from : goal.invariant-loop-from
invariant-loop-from g l = record {
  above : l.first ≤ l.from;
  below : l.from ≤ l.last;
  items : l.values.items ≡ map (meaning l.self) (range_with_len l.first (l.from - l.first));
}

abbrev pub decreases-loop-from : goal.decreases-loop-from
decreases-loop-from g l = l.last - l.from
