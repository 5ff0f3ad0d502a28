-- What was combined so far, and the room.
use Rattle.std.proofs.Common.{◌≡◌, ◌+◌, ◌-◌, ◌≤◌}
use Rattle.tensor_loops.specs.Folds.{folded}
use Rattle.tensor_values.specs.Combining.{unit}
use Rattle.tensor_ops.specs.private.ValueRuns.{run_value}
use Rattle.tensor_ops.proofs.part_evaluator.value_runs.ValueRuns.combined.Given as goal

abbrev pub invariant-loop-from : goal.invariant-loop-from
invariant-loop-from l = record {
  above : l.first ≤ l.from;
  below : l.from ≤ l.last;
  value : l.value ≡ folded l.reducer (unit l.reducer)
      (λ q. run_value l.self l.run (l.first + q)) (l.from - l.first);
}

abbrev pub decreases-loop-from : goal.decreases-loop-from
decreases-loop-from l = l.last - l.from
