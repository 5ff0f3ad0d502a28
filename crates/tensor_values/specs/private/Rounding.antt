-- Quotients rounded toward 0, as the processor computes them.
use Rattle.std.specs.Prelude.{ℤ, pos, Bool, int_lt, ◌&&◌, ◌||◌}

-- whether such a quotient is one above the quotient rounded down: the remainder is not 0, and its
-- sign is not the sign of the divisor
abbrev pub is_rounded_up : ℤ → ℤ → Bool
is_rounded_up rest divisor =
    (int_lt rest (pos 0) && int_lt (pos 0) divisor)
    || (int_lt (pos 0) rest && int_lt divisor (pos 0))
