-- Rows of a list, given by the places at which they begin and the offsets of their values.
use Rattle.std.specs.Prelude.{ℕ, ℤ, ◌+◌, ◌<◌, List, length, slice_index}

-- each offset leads from the start of each row to a place of the list
abbrev pub AreInside : List ℤ → List ℕ → List ℕ → Type 0
AreInside values rows offsets = (x q : ℕ) → x < length rows → q < length offsets
    → slice_index rows x + slice_index offsets q < length values
