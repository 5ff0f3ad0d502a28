-- The sums before k.
use Rattle.std.proofs.Common.{◌≡◌, ℕ, ◌-◌, ◌<◌, ◌≤◌, length}
use Rattle.tensor_values.specs.Values.{value_in}
use Rattle.tensor_dots.specs.private.RowPairs.{pair_dot}
use Rattle.tensor_dots.proofs.dots.row_sums.fill_together.Given as goal

abbrev pub invariant-loop-out : goal.invariant-loop-out
invariant-loop-out l = record {
  below : l.k ≤ length l.out;
  len : length l.out ≡ length l.initial.out;
  each : (k : ℕ) → k < l.k → value_in l.out k ≡ pair_dot l.pair k;
}

abbrev pub decreases-loop-out : goal.decreases-loop-out
decreases-loop-out l = length l.out - l.k
