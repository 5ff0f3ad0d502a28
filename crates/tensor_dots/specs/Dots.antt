-- Contractions row by row.
use Rattle.std.specs.Prelude.{ℕ, ℤ, ◌*◌}
use Rattle.tensor_dots.specs.Rows.{row_count, dot_at}
use Rattle.tensor_dots.specs.declared.dots.Dots.{Dots}

-- the number of values of the result
abbrev pub dots_count : Dots → ℕ
dots_count d = row_count d.second * row_count d.first

-- the value at place p of the result
abbrev pub dots_value : Dots → ℕ → ℤ
dots_value d p = dot_at d.first d.second p
