-- The rows before k.
use Rattle.std.proofs.Common.{◌≡◌, ℕ, ◌-◌, ◌<◌, ◌≤◌, length}
use Rattle.tensor_values.specs.Values.{value_in}
use Rattle.tensor_dots.specs.private.RowPairs.{row_dot}
use Rattle.tensor_dots.proofs.dots.row_sums.row_sums.Given as goal

abbrev pub invariant-loop-k : goal.invariant-loop-k
invariant-loop-k l = record {
  below : l.k ≤ length l.rows.starts.now;
  len : length l.out ≡ length l.rows.starts.now;
  each : (k : ℕ) → k < l.k → value_in l.out k ≡ row_dot l.rows l.row k;
}

abbrev pub decreases-loop-k : goal.decreases-loop-k
decreases-loop-k l = length l.rows.starts.now - l.k
