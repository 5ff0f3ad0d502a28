-- The first run of places along dims.
use Rattle.std.specs.Prelude.{ℕ, List, [], ◌∷◌}

-- the number of first axes that a run of places goes along: one, or none if there is no axis
abbrev pub run_axes : List ℕ → ℕ
run_axes [] = 0
run_axes (d ∷ ds) = 1

-- the number of places of a run
abbrev pub run_width : List ℕ → ℕ
run_width [] = 1
run_width (d ∷ ds) = d
