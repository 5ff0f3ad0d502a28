-- The axes found so far, and the room.
use Rattle.std.proofs.Common.{◌≡◌, ◌+◌, ◌-◌, ◌≤◌, length, not}
use Rattle.std.specs.List.{filter, range_with_len}
use Rattle.tensor_terms.specs.Movement.{is_among}
use Rattle.tensor_terms.proofs.index.merged.others.Given as goal

abbrev pub invariant-loop-axis : goal.invariant-loop-axis
invariant-loop-axis l = record {
  items : l.found.items ≡ filter (λ k. not (is_among k l.axes))
      (range_with_len l.from (l.axis - l.from));
  room : length l.found.items + l.from ≤ l.axis;
}
