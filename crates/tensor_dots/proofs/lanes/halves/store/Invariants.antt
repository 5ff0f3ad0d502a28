-- The first r lanes are stored, and the columns before stay.
use Rattle.std.proofs.Common.{◌≡◌, ℕ, length, ◌+◌, ◌*◌, ◌<◌}
use Rattle.tensor_values.specs.Values.{value_in}
use Rattle.tensor_dots.specs.Halves.{joined}
use Rattle.tensor_dots.proofs.lanes.halves.store.Given as goal

abbrev pub invariant-loop-r : goal.invariant-loop-r
invariant-loop-r l =
    (length l.sums ≡ 16)
    × ((r : ℕ) → r < l.r → value_in l.sums (4 * l.j + r) ≡ joined l.low l.crossed r)
    × ((s : ℕ) → s < 4 * l.j → value_in l.sums s ≡ value_in l.initial.sums s)
