-- Operands as rows.
use Rattle.std.specs.Prelude.{ℕ, ℤ, ◌+◌, length, slice_index}
use Rattle.std.specs.Cow.{cow_slice_items}
use Rattle.tensor_values.specs.Values.{value_in}
use Rattle.tensor_dots.specs.Products.{rows_dot}
use Rattle.tensor_dots.specs.declared.rows.Rows.{Rows}

-- the number of rows
abbrev pub row_count : Rows → ℕ
row_count r = length r.starts.items

-- the number of values of each row
abbrev pub row_length : Rows → ℕ
row_length r = length r.offsets.items

-- value q of row x
abbrev pub row_value : Rows → ℕ → ℕ → ℤ
row_value r x q =
    value_in (cow_slice_items r.values)
    (slice_index r.starts.items x + slice_index r.offsets.items q)

-- the value at place p of the result of two operands
abbrev pub dot_at : Rows → Rows → ℕ → ℤ
dot_at first second p =
    rows_dot (row_count first) (row_length first) (row_value first) (row_value second) p
