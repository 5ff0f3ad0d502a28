-- The sums before t are stored, and what is before them stays.
use Rattle.std.proofs.Common.{◌≡◌, ℕ, length, ◌+◌, ◌<◌}
use Rattle.tensor_values.specs.Values.{value_in}
use Rattle.tensor_dots.proofs.dots.row_sums.store.Given as goal

abbrev pub invariant-loop-t : goal.invariant-loop-t
invariant-loop-t l = record {
  len : length l.out ≡ length l.initial.out;
  stored : (s : ℕ) → s < l.t → value_in l.out (l.k + s) ≡ value_in l.sums s;
  kept : (j : ℕ) → j < l.k → value_in l.out j ≡ value_in l.initial.out j;
}
