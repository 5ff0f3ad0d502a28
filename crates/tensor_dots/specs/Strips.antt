-- Operands whose rows are slices of a list.
use Rattle.std.specs.Prelude.{ℕ, ℤ, ◌+◌, length, slice_index}
use Rattle.std.specs.Cow.{cow_slice_items}
use Rattle.tensor_values.specs.Values.{value_in}
use Rattle.tensor_dots.specs.declared.rows.strips.Strips.{Strips}

-- the number of rows
abbrev pub strip_count : Strips → ℕ
strip_count s = length s.starts.items

-- the number of values of each row
abbrev pub strip_length : Strips → ℕ
strip_length s = s.width

-- value q of row x
abbrev pub strip_value : Strips → ℕ → ℕ → ℤ
strip_value s x q = value_in (cow_slice_items s.values) (slice_index s.starts.items x + q)
