-- Integers by their distance from 0, or from -1 if they are below 0.
use Rattle.std.specs.Prelude.{ℕ, ℤ, pos, negsuc, Bool, true, false}

-- the distance of an integer from 0, or from -1 if it is below 0
abbrev pub distance : ℤ → ℕ
distance (pos a) = a
distance (negsuc a) = a

-- the integer at a distance from 0, or below 0 at a distance from -1
abbrev pub at_distance : Bool → ℕ → ℤ
at_distance true a = negsuc a
at_distance false a = pos a
