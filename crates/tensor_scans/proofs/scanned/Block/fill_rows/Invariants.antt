-- The first values that are written so far.
use Rattle.std.proofs.Common.{◌≡◌, ℕ, ◌+◌, ◌-◌, ◌<◌, ◌≤◌, length}
use Rattle.tensor_scans.specs.private.Rows.{running_at}
use Rattle.tensor_values.specs.Values.{value_in}
use Rattle.tensor_scans.proofs.scanned.Block.fill_rows.Given as goal

abbrev pub invariant-loop-done : goal.invariant-loop-done
invariant-loop-done l = record {
  long : length l.out ≡ length l.initial.out;
  within : l.done ≤ l.head;
  each : (k : ℕ) → k < l.done
      → value_in l.out k ≡ running_at l.reducer l.self.stride (value_in l.self.values.now) (l.from + k);
}

abbrev pub decreases-loop-done : goal.decreases-loop-done
decreases-loop-done l = l.head - l.done
