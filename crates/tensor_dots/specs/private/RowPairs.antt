-- Rows of one list that begin side by side, and a row of another list.
use Rattle.std.specs.Prelude.{ℕ, ℤ, ◌+◌, ◌<◌, ◌≤◌, length, slice_index}
use Rattle.tensor_shape.specs.Wrap.{wrap}
use Rattle.tensor_dots.specs.Lanes.{AreSmall}
use Rattle.tensor_dots.specs.Products.{product_of, list_product}
use Rattle.tensor_dots.specs.declared.dots.row_pair.Row.{Row}
use Rattle.tensor_dots.specs.declared.dots.row_pair.RowPair.{RowPair}
use Rattle.tensor_dots.specs.declared.rows.part.RowsPart.{RowsPart}

-- product q of row k of the first rows and the second row
abbrev pub pair_product : RowPair → ℕ → ℕ → ℤ
pair_product p k q =
    product_of p.first.values.now (p.first.start + k) p.first.offsets.now p.second.values.now
    p.second.start p.second.offsets.now q

-- the sum of the first n products of row k of the first rows and the second row
abbrev pub pair_sum : RowPair → ℕ → ℕ → ℤ
pair_sum p k n =
    list_product p.first.values.now (p.first.start + k) p.first.offsets.now p.second.values.now
    p.second.start p.second.offsets.now n

-- the sum of all products of row k of the first rows and the second row, modulo 2^64
abbrev pub pair_dot : RowPair → ℕ → ℤ
pair_dot p k = wrap (pair_sum p k (length p.first.offsets.now))

-- n rows that begin side by side, the pair's first row among them, lie within their list
abbrev pub HasRows : ℕ → RowPair → Type 0
HasRows n p = (q : ℕ) → q < length p.first.offsets.now
    → p.first.start + slice_index p.first.offsets.now q + n ≤ length p.first.values.now

-- all values of both lists fit 32 bits
abbrev pub IsSmallPair : RowPair → Type 0
IsSmallPair p = AreSmall p.first.values.now × AreSmall p.second.values.now

-- the sum of all products of row k of a part and another row, modulo 2^64
abbrev pub row_dot : RowsPart → Row → ℕ → ℤ
row_dot part row k =
    wrap (list_product part.values.now (slice_index part.starts.now k) part.offsets.now
    row.values.now row.start row.offsets.now (length part.offsets.now))
