-- The values of a contraction that was made ready.
use Rattle.std.specs.Prelude.{ℕ, ℤ}
use Rattle.tensor_dots.specs.Dots.{dots_count, dots_value}
use Rattle.tensor_dots.specs.WindowDots.{window_dots_count, window_dots_value}
use Rattle.tensor_dots.specs.StripDots.{strip_dots_count, strip_dots_value}
use Rattle.tensor_kernels.specs.Tiling.{tiled_count, tiled_value}
use Rattle.tensor_kernels.specs.declared.contraction.Contraction.{Contraction}
use Rattle.tensor_kernels.specs.declared.contraction.Contraction.TheVariants.{InTiles, InDots, InStrips}
use Rattle.tensor_kernels.specs.declared.contraction.Contraction.TheVariants.{InRuns}

-- the number of values of the result
abbrev pub contraction_count : Contraction → ℕ
contraction_count (InTiles t) = tiled_count t
contraction_count (InDots d) = dots_count d
contraction_count (InStrips d) = strip_dots_count d
contraction_count (InRuns d) = window_dots_count d

-- the value at place p of the result
abbrev pub contraction_value : Contraction → ℕ → ℤ
contraction_value (InTiles t) p = tiled_value t p
contraction_value (InDots d) p = dots_value d p
contraction_value (InStrips d) p = strip_dots_value d p
contraction_value (InRuns d) p = window_dots_value d p
