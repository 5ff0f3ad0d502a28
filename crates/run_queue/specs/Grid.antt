-- Rows of jobs as a list of lists.
use Rattle.std.specs.Prelude.{ℕ, List, [], slice_index_or}

-- the jobs of a row, front first; none if there is no such row
abbrev pub row_of : {J : Type 0} → List (List J) → ℕ → List J
row_of rows row = slice_index_or rows row []
