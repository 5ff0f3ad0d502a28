-- How an operand is cut into quarters: its rows in two halves, and its values in two chunks.
use Rattle.std.specs.Prelude.{◌≡◌, ℕ, ℤ, ◌+◌, ◌*◌, ◌<◌, List, length, slice_index}
use Rattle.tensor_values.specs.Values.{value_in}
use Rattle.tensor_kernels.specs.Panels.{cell_of}
use Rattle.tensor_dots.specs.declared.rows.part.RowsPart.{RowsPart}
use Rattle.tensor_kernels.specs.declared.tiling.strassen.half.Half.{Half}

-- the number of cells of a quarter
abbrev pub half_size : Half → ℕ
half_size half = half.panels * (128 * half.height)

-- cells hold, in panels of h rows, the values of a part's rows in chunk c, which is whole
abbrev pub HasChunk : ℕ → List ℤ → RowsPart → ℕ → Type 0
HasChunk h cells part c = (x q : ℕ) → x < length part.starts.now → q < 128
    → cell_of h cells 128 x q ≡ value_in part.values.now
    (slice_index part.starts.now x + slice_index part.offsets.now (c * 128 + q))
