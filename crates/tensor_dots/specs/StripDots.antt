-- Contractions of operands whose rows are slices.
use Rattle.std.specs.Prelude.{ℕ, ℤ, ◌*◌}
use Rattle.tensor_dots.specs.Products.{rows_dot}
use Rattle.tensor_dots.specs.Strips.{strip_count, strip_value}
use Rattle.tensor_dots.specs.declared.dots.strip_dots.StripDots.{StripDots}

-- the number of values of the result
abbrev pub strip_dots_count : StripDots → ℕ
strip_dots_count d = strip_count d.second * strip_count d.first

-- the value at place p of the result
abbrev pub strip_dots_value : StripDots → ℕ → ℤ
strip_dots_value d p =
    rows_dot (strip_count d.first) d.first.width (strip_value d.first) (strip_value d.second) p
