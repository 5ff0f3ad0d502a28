-- Contractions tile by tile.
use Rattle.std.specs.Prelude.{ℕ, ℤ, ◌+◌, ◌-◌, ◌*◌, ◌/◌, ◌%◌, ◌*ℤ◌, length, min}
use Rattle.tensor_kernels.specs.Chunks.{chunk, chunk_start}
use Rattle.tensor_dots.specs.Products.{sum_to}
use Rattle.tensor_dots.specs.Rows.{row_count, row_length, row_value, dot_at}
use Rattle.tensor_dots.specs.declared.rows.Rows.{Rows}
use Rattle.tensor_kernels.specs.declared.tiling.Tiled.{Tiled}

-- the number of values of the result
abbrev pub tiled_count : Tiled → ℕ
tiled_count t = row_count t.second * row_count t.first

-- the value at place p of the result
abbrev pub tiled_value : Tiled → ℕ → ℤ
tiled_value t p = dot_at t.first t.second p

-- product q of the sum at place p of the result
abbrev pub product_at : Rows → Rows → ℕ → ℕ → ℤ
product_at first second p q =
    row_value first (p % row_count first) q *ℤ row_value second (p / row_count first) q

-- the sum of the products of chunk c, at place p of the result
abbrev pub chunk_total : Tiled → ℕ → ℕ → ℤ
chunk_total t c p =
    sum_to (λ q. product_at t.first t.second p (chunk_start (row_length t.first) c + q))
    (length (chunk t.first.offsets.items c))

-- the sum of the products of pair c of chunks, which are whole, at place p of the result
abbrev pub pair_total : Tiled → ℕ → ℕ → ℤ
pair_total t c p = sum_to (λ q. product_at t.first t.second p (c * 256 + q)) 256

-- the sum of the products of the first n pairs of a group, at place p of the result
abbrev pub gathered_total : Tiled → ℕ → ℕ → ℕ → ℤ
gathered_total t group n p =
    sum_to (λ q. product_at t.first t.second p (group * 512 + q)) (n * 256)

-- the number of pairs of a group: two, or one if it is the last group of an odd number of pairs
abbrev pub group_pairs : Tiled → ℕ → ℕ
group_pairs t group = min 2 (t.pairs - group * 2)

-- the sum of the products of a group, at place p of the result
abbrev pub group_total : Tiled → ℕ → ℕ → ℤ
group_total t group p = gathered_total t group (group_pairs t group) p

-- the sum of the products of all pairs of chunks, at place p of the result
abbrev pub pairs_total : Tiled → ℕ → ℤ
pairs_total t p = sum_to (product_at t.first t.second p) (t.pairs * 256)
