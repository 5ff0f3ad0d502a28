-- The sum so far, and the room.
use Rattle.std.proofs.Common.{◌≡◌, ◌+◌, ◌-◌, ◌*ℤ◌, ◌≤◌}
use Rattle.tensor_shape.specs.Wrap.{wrap}
use Rattle.tensor_kernels.specs.Products.{sum_to}
use Rattle.tensor_ops.specs.private.ValueRuns.{run_value}
use Rattle.tensor_ops.proofs.part_evaluator.value_runs.ValueRuns.multiplied.Given as goal

abbrev pub invariant-loop-from : goal.invariant-loop-from
invariant-loop-from l = record {
  above : l.first ≤ l.from;
  below : l.from ≤ l.last;
  sum : l.sum ≡ wrap (sum_to (λ q. run_value l.self l.run (l.first + q)
      *ℤ run_value l.other l.other_run (l.first + q)) (l.from - l.first));
}

abbrev pub decreases-loop-from : goal.decreases-loop-from
decreases-loop-from l = l.last - l.from
