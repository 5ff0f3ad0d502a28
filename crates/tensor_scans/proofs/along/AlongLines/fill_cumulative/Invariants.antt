-- The values that are written so far, and where the next one stands in its block.
use Rattle.std.proofs.Common.{◌≡◌, ℕ, ◌+◌, ◌-◌, ◌*◌, ◌<◌, ◌≤◌, length}
use Rattle.tensor_scans.specs.private.Rows.{cumulated_at}
use Rattle.tensor_values.specs.Values.{value_in}
use Rattle.tensor_scans.proofs.along.AlongLines.fill_cumulative.Given as goal

abbrev pub invariant-loop-done : goal.invariant-loop-done
invariant-loop-done l = record {
  long : length l.out ≡ length l.initial.out;
  within : l.done ≤ length l.out;
  from : l.from < l.width;
  here : l.done < length l.out → l.first + l.done ≡ l.block * l.width + l.from;
  each : (k : ℕ) → k < l.done
      → value_in l.out k ≡ cumulated_at l.reducer l.self.lines (value_in l.self.values.now) (l.first + k);
}

abbrev pub decreases-loop-done : goal.decreases-loop-done
decreases-loop-done l = length l.out - l.done
