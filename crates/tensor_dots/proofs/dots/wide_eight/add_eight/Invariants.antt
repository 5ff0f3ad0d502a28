-- The sums before t have their product, the others are as they were.
use Rattle.std.proofs.Common.{◌≡◌, ℕ, ◌+◌, ◌*◌, ◌/◌, ◌%◌, ◌≤◌, ◌<◌, ◌*ℤ◌, length}
use Rattle.tensor_values.specs.Values.{value_in}
use Rattle.tensor_dots.specs.Products.{with_product}
use Rattle.tensor_dots.proofs.dots.wide_eight.add_eight.Given as goal

abbrev pub invariant-loop-t : goal.invariant-loop-t
invariant-loop-t l =
    (length l.sums ≡ 8)
    × ((s : ℕ) → s < l.t → value_in l.sums s
    ≡ with_product (value_in l.initial.sums s) (value_in l.a (l.i + (s % 2 * 4 + s / 2)) *ℤ l.factor))
    × ((s : ℕ) → l.t ≤ s → value_in l.sums s ≡ value_in l.initial.sums s)
