-- Single axes.
use Rattle.std.specs.Prelude.{ℕ, false}
use Rattle.tensor_views.specs.declared.axis.Axis.{Axis}

-- an axis along which the places go up
abbrev pub forward : ℕ → ℕ → Axis
forward size step = record { size = size; step = step; reversed = false }

-- the axis that stands for one that doesn't exist
abbrev pub no_axis : Axis
no_axis = forward 0 0
