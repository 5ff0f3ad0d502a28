-- Operands of convolutions as runs of result places.
use Rattle.std.specs.Prelude.{ℕ, ℤ, ◌+◌, ◌*◌, ◌/◌, ◌%◌, length, slice_index}
use Rattle.std.specs.Cow.{cow_slice_items}
use Rattle.tensor_values.specs.Values.{value_in}
use Rattle.tensor_dots.specs.declared.rows.windows.Windows.{Windows}

-- the number of places of all runs
abbrev pub window_count : Windows → ℕ
window_count r = length r.starts.items * r.width

-- the number of places of the kernel
abbrev pub window_length : Windows → ℕ
window_length r = length r.offsets.items

-- the value under place q of the kernel, for place x of the result
abbrev pub window_value : Windows → ℕ → ℕ → ℤ
window_value r x q =
    value_in (cow_slice_items r.values)
    (slice_index r.starts.items (x / r.width) + x % r.width + slice_index r.offsets.items q)
