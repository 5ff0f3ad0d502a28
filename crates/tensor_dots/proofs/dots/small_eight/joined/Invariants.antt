-- The lanes before r.
use Rattle.std.proofs.Common.{◌≡◌, ℕ, length, ◌+◌, ◌<◌}
use Rattle.tensor_values.specs.Values.{value_in}
use Rattle.tensor_dots.proofs.dots.small_eight.joined.Given as goal

abbrev pub invariant-loop-r : goal.invariant-loop-r
invariant-loop-r l =
    (length l.joined ≡ 8)
    × ((r : ℕ) → r < l.r → value_in l.joined r ≡ value_in l.low r)
    × ((r : ℕ) → r < l.r → value_in l.joined (4 + r) ≡ value_in l.high r)
