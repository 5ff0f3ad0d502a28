-- The values that are written so far, and where the next stand.
use Rattle.std.proofs.Common.{◌≡◌, ℕ, ◌+◌, ◌-◌, ◌<◌, ◌≤◌, length}
use Rattle.tensor_scans.specs.Places.{taken_at}
use Rattle.tensor_values.specs.Values.{value_in}
use Rattle.tensor_scans.proofs.Rows.{IsAt}
use Rattle.tensor_scans.proofs.taken.TakenLines.fill_by_rows.Given as goal

abbrev pub invariant-loop-done : goal.invariant-loop-done
invariant-loop-done l = record {
  within : l.done ≤ length l.out;
  len : length l.out ≡ length l.initial.out;
  at : l.done < length l.out
      → IsAt l.self.lines.stride (length l.self.numbers.now) l.block l.column l.j (l.first + l.done);
  each : (k : ℕ) → k < l.done
      → value_in l.out k ≡ taken_at l.self.lines l.self.numbers.now (value_in l.self.values.now) (l.first + k);
}

abbrev pub decreases-loop-done : goal.decreases-loop-done
decreases-loop-done l = length l.out - l.done
