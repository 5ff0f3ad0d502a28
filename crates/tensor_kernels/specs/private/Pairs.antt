-- Products two by two. (f 0 + g 1) * (f 1 + g 0) is f 0 * g 0 + f 1 * g 1, plus f 0 * f 1 and g 0 *
-- g 1, each of which depends on one row alone.
use Rattle.std.specs.Prelude.{◌≡◌, ℕ, ℤ, pos, ◌+ℤ◌, ◌-ℤ◌, ◌*ℤ◌, ◌+◌, ◌*◌, ◌/◌, ◌<◌, List, length}
use Rattle.tensor_shape.specs.Wrap.{wrap}
use Rattle.tensor_values.specs.Values.{value_in}
use Rattle.tensor_kernels.specs.Panels.{cell_of}
use Rattle.tensor_dots.specs.Products.{sum_to}

-- the sum of the products of the first n pairs of a row's values
abbrev pub own_pairs : (ℕ → ℤ) → ℕ → ℤ
own_pairs f n = sum_to (λ k. f (2 * k) *ℤ f (2 * k + 1)) n

-- the sum over the first n pairs of two rows, where a value of one row is added to the other value
-- of the other row's pair
abbrev pub pairs_dot : (ℕ → ℤ) → (ℕ → ℤ) → ℕ → ℤ
pairs_dot f g n =
    sum_to (λ k. (f (2 * k) +ℤ g (2 * k + 1)) *ℤ (f (2 * k + 1) +ℤ g (2 * k))) n

-- 0 less the number of row t, and less the number of a column
abbrev pub without_own : List ℤ → List ℤ → ℕ → ℤ
without_own rows column t = (pos 0 -ℤ value_in rows t) -ℤ value_in column 0

-- the values of a row that lie h places apart, from place t on
abbrev pub lane : ℕ → List ℤ → ℕ → ℕ → ℤ
lane h cells t q = value_in cells (h * q + t)

-- sums are, modulo 2^64, the sums of the products of the pairs of each row of the panels that cells
-- hold; a row has n values
abbrev pub ArePairSums : ℕ → List ℤ → List ℤ → ℕ → Type 0
ArePairSums h sums cells n = (x : ℕ) → x < length sums
    → value_in sums x ≡ wrap (own_pairs (cell_of h cells n x) (n / 2))
