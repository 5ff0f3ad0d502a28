-- Rows in panels of h rows: a panel has the first values of its rows, then their second values, and
-- so on.
use Rattle.std.specs.Prelude.{◌≡◌, ℕ, ℤ, ◌+◌, ◌-◌, ◌*◌, ◌/◌, ◌%◌, ◌<◌, List, length, min}
use Rattle.std.specs.Prelude.{slice_index}
use Rattle.tensor_values.specs.Values.{value_in}
pub use Rattle.tensor_dots.specs.Inside.{AreInside}

-- the cell of value q of row x, if rows have n values
abbrev pub panel_place : ℕ → ℕ → ℕ → ℕ → ℕ
panel_place h n x q = x / h * (n * h) + (h * q + x % h)

-- value q of row x of the panels that cells hold
abbrev pub cell_of : ℕ → List ℤ → ℕ → ℕ → ℕ → ℤ
cell_of h cells n x q = value_in cells (panel_place h n x q)

-- value q of row x of some rows; past the last row, of the last row
abbrev pub part_value : List ℤ → List ℕ → List ℕ → ℕ → ℕ → ℤ
part_value values rows offsets x q =
    value_in values
    (slice_index rows (min x (length rows - 1)) + slice_index offsets q)

-- cells hold the values of the rows, as far as the cells go
abbrev pub AreCells : ℕ → List ℤ → List ℤ → List ℕ → List ℕ → Type 0
AreCells h cells values rows offsets = (x q : ℕ) → q < length offsets
    → panel_place h (length offsets) x q < length cells
    → cell_of h cells (length offsets) x q ≡ part_value values rows offsets x q
