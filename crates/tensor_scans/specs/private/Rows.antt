-- Blocks and their rows: a row has one value of each line.
use Rattle.std.specs.Prelude.{◌≡◌, ℕ, ℤ, ◌+◌, ◌*◌, ◌/◌, ◌%◌, ◌<◌, List, length, map, take}
use Rattle.std.specs.Prelude.{Option, Some, None, if◌then◌else◌, int_lt, nat_lt, pos, unsigned_abs}
use Rattle.std.specs.List.{range_with_len}
use Rattle.tensor_scans.specs.Lines.{taken_from}
use Rattle.tensor_scans.specs.Places.{line_through, number_at}
use Rattle.tensor_scans.specs.declared.lines.Lines.{Lines}
use Rattle.tensor_values.specs.Combining.{combination, combine}
use Rattle.tensor_values.specs.Values.{value_in}
use Rattle.tensor_values.specs.declared.reducer.Reducer.{Reducer}

-- the line of a block that begins at place i of its first row
abbrev pub line_at : Lines → (ℕ → ℤ) → ℕ → List ℤ
line_at lines f i = map (λ k. f (i + lines.stride * k)) (range_with_len 0 lines.length)

-- the value at place q of what numbers take from a block, row after row
abbrev pub taken_in : Lines → List ℤ → (ℕ → ℤ) → ℕ → ℤ
taken_in lines numbers f q =
    taken_from (line_at lines f (q % lines.stride)) (value_in numbers (q / lines.stride))

-- where the row of a number begins in a block; None if a line has no such number
abbrev pub row_of : Lines → ℤ → Option ℕ
row_of lines number =
    if int_lt number (pos 0) then None
    else (if nat_lt (unsigned_abs number) lines.length
    then Some (unsigned_abs number * lines.stride) else None)

-- the values of a line up to the number of place p, combined
abbrev pub cumulated_at : Reducer → Lines → (ℕ → ℤ) → ℕ → ℤ
cumulated_at r lines f p =
    combination r (take (number_at lines lines.length p + 1) (line_through lines lines.length f p))

-- the first n values of the line that begins at place i of a block's first row, combined
abbrev pub rows_combined : Reducer → ℕ → (ℕ → ℤ) → ℕ → ℕ → ℤ
rows_combined r stride f i n = combination r (map (λ k. f (i + stride * k)) (range_with_len 0 n))

-- the values of a line of a block up to place q, combined
abbrev pub running_at : Reducer → ℕ → (ℕ → ℤ) → ℕ → ℤ
running_at r stride f q = rows_combined r stride f (q % stride) (q / stride + 1)

-- the first values, as many as the stride, stay; each other value is the value one stride before it
-- combined with the value of f
pub record Follows (r : Reducer) (stride : ℕ) (f : ℕ → ℤ) (old new : List ℤ) : Type 0 where
  pub len : length new ≡ length old
  pub first : (k : ℕ) → k < stride → value_in new k ≡ value_in old k
  pub next : (k : ℕ) → k + stride < length old
      → value_in new (k + stride) ≡ combine r (value_in new k) (f (k + stride))
