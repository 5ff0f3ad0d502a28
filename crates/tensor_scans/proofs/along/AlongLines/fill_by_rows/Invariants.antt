-- The places before this one have their values.
use Rattle.std.proofs.Common.{◌≡◌, ℕ, ◌+◌, ◌-◌, ◌<◌, ◌≤◌, length}
use Rattle.tensor_scans.specs.Places.{along_at}
use Rattle.tensor_values.specs.Values.{value_in}
use Rattle.tensor_scans.proofs.along.AlongLines.fill_by_rows.Given as goal

abbrev pub invariant-loop-place : goal.invariant-loop-place
invariant-loop-place l = record {
  above : l.first ≤ l.place;
  below : l.place ≤ l.last;
  room : length l.best ≡ 1024;
  len : length l.out ≡ length l.initial.out;
  each : (k : ℕ) → k < l.place - l.first
      → value_in l.out k ≡ along_at l.self.operation l.self.lines (value_in l.self.values.now) (l.first + k);
}

abbrev pub decreases-loop-place : goal.decreases-loop-place
decreases-loop-place l = l.last - l.place
