-- Each place has its line's values of the rows before.
use Rattle.std.proofs.Common.{◌≡◌, ℕ, ◌+◌, ◌<◌, length}
use Rattle.tensor_scans.specs.private.Rows.{rows_combined}
use Rattle.tensor_values.specs.Values.{value_in}
use Rattle.tensor_scans.proofs.scanned.Block.fold_rows.Given as goal

abbrev pub invariant-loop-row : goal.invariant-loop-row
invariant-loop-row l = record {
  long : length l.out ≡ length l.initial.out;
  each : (k : ℕ) → k < length l.out
      → value_in l.out k ≡ rows_combined l.reducer l.self.stride (value_in l.self.values.now) (l.first + k) l.row;
}
