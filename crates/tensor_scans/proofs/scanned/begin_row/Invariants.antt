-- The values before the counter are written.
use Rattle.std.proofs.Common.{◌≡◌, ℕ, ◌<◌, length}
use Rattle.tensor_values.specs.Values.{value_in}
use Rattle.tensor_values.specs.Combining.{combine, unit}
use Rattle.tensor_scans.proofs.scanned.begin_row.Given as goal

abbrev pub invariant-loop-i : goal.invariant-loop-i
invariant-loop-i l = record {
  long : length l.row ≡ length l.values;
  each : (k : ℕ) → k < l.i
      → value_in l.row k ≡ combine l.reducer (unit l.reducer) (value_in l.values k);
}
