-- Convolutions by runs of result places.
use Rattle.std.specs.Prelude.{ℕ, ℤ}
use Rattle.tensor_dots.specs.Products.{rows_dot}
use Rattle.tensor_dots.specs.Rows.{row_value}
use Rattle.tensor_dots.specs.Windows.{window_count, window_length, window_value}
use Rattle.tensor_dots.specs.declared.dots.window_dots.WindowDots.{WindowDots}

-- the number of values of the result
abbrev pub window_dots_count : WindowDots → ℕ
window_dots_count d = window_count d.runs

-- the value at place p of the result
abbrev pub window_dots_value : WindowDots → ℕ → ℤ
window_dots_value d p =
    rows_dot (window_count d.runs) (window_length d.runs) (window_value d.runs) (row_value d.kernel) p
