-- What the runs before gave, and the room.
use Rattle.std.proofs.Common.{◌≡◌, ◌+◌, ◌-◌, ◌≤◌, map, vec_len, vec_capacity}
use Rattle.std.specs.List.{range_with_len}
use Rattle.tensor_ops.specs.private.ValueRuns.{run_combined}
use Rattle.tensor_ops.proofs.part_evaluator.value_runs.ValueRuns.together.Given as goal

abbrev pub invariant-loop-run : goal.invariant-loop-run
invariant-loop-run g l = record {
  above : l.first ≤ l.run;
  below : l.run ≤ l.last;
  items : l.values.items
      ≡ map (run_combined l.reducer l.self) (range_with_len l.first (l.run - l.first));
  room : vec_len l.values + (l.last - l.run) ≤ vec_capacity l.values;
}

abbrev pub decreases-loop-run : goal.decreases-loop-run
decreases-loop-run g l = l.last - l.run
