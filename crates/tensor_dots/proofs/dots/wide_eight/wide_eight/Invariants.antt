-- The first t sums, in the order of their rows.
use Rattle.std.proofs.Common.{◌≡◌, ℕ, ◌+◌, ◌<◌, length}
use Rattle.tensor_values.specs.Values.{value_in}
use Rattle.tensor_dots.specs.private.RowPairs.{pair_dot}
use Rattle.tensor_dots.proofs.dots.wide_eight.wide_eight.Given as goal

abbrev pub invariant-loop-t : goal.invariant-loop-t
invariant-loop-t l =
    (length l.sums ≡ 8)
    × ((s : ℕ) → s < l.t → value_in l.sums s ≡ pair_dot l.pair (l.k + s))
