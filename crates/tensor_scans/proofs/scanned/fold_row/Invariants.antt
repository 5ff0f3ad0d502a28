-- The values before the counter are combined, and the others are as they were.
use Rattle.std.proofs.Common.{◌≡◌, ℕ, ◌<◌, ◌≤◌, length}
use Rattle.tensor_values.specs.Values.{value_in}
use Rattle.tensor_values.specs.Combining.{combine}
use Rattle.tensor_scans.proofs.scanned.fold_row.Given as goal

abbrev pub invariant-loop-i : goal.invariant-loop-i
invariant-loop-i l = record {
  long : length l.row ≡ length l.others;
  each : (k : ℕ) → k < l.i → value_in l.row k ≡ combine l.reducer (value_in l.initial.row k)
      (value_in l.others k);
  rest : (k : ℕ) → l.i ≤ k → value_in l.row k ≡ value_in l.initial.row k;
}
