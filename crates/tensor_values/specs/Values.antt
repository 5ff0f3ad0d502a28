-- The values of a list by their places.
use Rattle.std.specs.Prelude.{ℕ, ℤ, pos, List, slice_index_or}

-- the value at a place of a list; 0 past the end
abbrev pub value_in : List ℤ → ℕ → ℤ
value_in values p = slice_index_or values p (pos 0)
