-- Sums of index lists times the steps of their axes.
use Rattle.std.specs.Prelude.{ℕ, ◌+◌, ◌*◌, List, [], ◌∷◌}

-- the sum of each index times the step of its axis
abbrev pub stepped : List ℕ → List ℕ → ℕ
stepped [] is = 0
stepped (t ∷ ts) [] = 0
stepped (t ∷ ts) (i ∷ is) = i * t + stepped ts is
