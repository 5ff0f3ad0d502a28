-- The sums before k.
use Rattle.std.proofs.Common.{◌≡◌, ℕ, ◌<◌, length}
use Rattle.tensor_values.specs.Values.{value_in}
use Rattle.tensor_dots.specs.private.RowPairs.{pair_dot}
use Rattle.tensor_dots.proofs.dots.row_sums.sums_of_run.Given as goal

abbrev pub invariant-loop-k : goal.invariant-loop-k
invariant-loop-k l = record {
  len : length l.out ≡ length l.initial.out;
  each : (k : ℕ) → k < l.k → value_in l.out k ≡ pair_dot l.pair k;
}
