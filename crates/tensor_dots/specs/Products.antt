-- Sums of products of whole numbers, which no width bounds.
use Rattle.std.specs.Prelude.{ℕ, zero, suc, ℤ, pos, ◌+ℤ◌, ◌*ℤ◌, ◌+◌, ◌/◌, ◌%◌, List}
use Rattle.std.specs.Prelude.{slice_index}
use Rattle.tensor_shape.specs.Wrap.{wrap}
use Rattle.tensor_values.specs.Values.{value_in}

-- f 0 + f 1 + .. + f (n - 1)
abbrev pub sum_to : (ℕ → ℤ) → ℕ → ℤ
sum_to f zero = pos 0
sum_to f (suc n) = sum_to f n +ℤ f n

-- the sum of the products of the first n values of two rows
abbrev pub dot : (ℕ → ℤ) → (ℕ → ℤ) → ℕ → ℤ
dot f g n = sum_to (λ q. f q *ℤ g q) n

-- the value at place p of a result whose first operand has the given number of rows: the products
-- of row p % rows of the first operand and row p / rows of the second are summed over len values,
-- modulo 2^64
abbrev pub rows_dot : ℕ → ℕ → (ℕ → ℕ → ℤ) → (ℕ → ℕ → ℤ) → ℕ → ℤ
rows_dot rows len first second p =
    wrap (sum_to (λ q. first (p % rows) q *ℤ second (p / rows) q) len)

-- product q of two rows: the value of a at x, moved by offset q, times the value of b at y, moved
-- by the other offset q
abbrev pub product_of : List ℤ → ℕ → List ℕ → List ℤ → ℕ → List ℕ → ℕ → ℤ
product_of a x offsets b y others q =
    value_in a (x + slice_index offsets q) *ℤ value_in b (y + slice_index others q)

-- the sum of the first n products of two rows
abbrev pub list_product : List ℤ → ℕ → List ℕ → List ℤ → ℕ → List ℕ → ℕ → ℤ
list_product a x offsets b y others n = sum_to (product_of a x offsets b y others) n

-- s plus x, modulo 2^64
abbrev pub with_product : ℤ → ℤ → ℤ
with_product s x = wrap (s +ℤ x)
