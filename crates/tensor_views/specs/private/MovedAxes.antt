-- The axes of the view of a movement over a view.
use Rattle.std.specs.Prelude.{ℕ, ◌*◌, List, [], ◌∷◌, map, min, remove, slice_index_or, Bool}
use Rattle.std.specs.Int.{div_ceil}
use Rattle.tensor_terms.specs.Term.{Movement, broadcast, slice, shuffle, reshape, chip, reverse}
use Rattle.tensor_terms.specs.Term.{stride}
use Rattle.tensor_views.specs.Forward.{forward, no_axis}
use Rattle.tensor_views.specs.declared.axis.Axis.{Axis}

-- each axis, followed by an axis of step 0 that repeats it
abbrev pub repeated_axes : List Axis → List ℕ → List Axis
repeated_axes [] cs = []
repeated_axes (a ∷ rest) [] = []
repeated_axes (a ∷ rest) (c ∷ cs) = a ∷ forward c 0 ∷ repeated_axes rest cs

-- the axes with other sizes
abbrev pub cut_axes : List Axis → List ℕ → List Axis
cut_axes [] es = []
cut_axes (a ∷ rest) [] = []
cut_axes (a ∷ rest) (e ∷ es) = forward e a.step ∷ cut_axes rest es

-- the axes with the direction down where the flag is set
abbrev pub reversed_axes : List Axis → List Bool → List Axis
reversed_axes [] fs = []
reversed_axes (a ∷ rest) [] = []
reversed_axes (a ∷ rest) (f ∷ fs) =
    record { size = a.size; step = a.step; reversed = f } ∷ reversed_axes rest fs

-- the axes that read every step-th place; if an axis is shorter than its step, only the first place
abbrev pub strided_axes : List Axis → List ℕ → List Axis
strided_axes [] ss = []
strided_axes (a ∷ rest) [] = []
strided_axes (a ∷ rest) (s ∷ ss) =
    forward (div_ceil a.size s) (a.step * min s a.size) ∷ strided_axes rest ss

-- the axes in another order
abbrev pub shuffled_axes : List Axis → List ℕ → List Axis
shuffled_axes axes order = map (λ s. slice_index_or axes s no_axis) order

-- the axes of the view of a movement
abbrev pub moved_axes : Movement → List Axis → List Axis
moved_axes (broadcast counts) axes = repeated_axes axes counts
moved_axes (slice offsets extents) axes = cut_axes axes extents
moved_axes (shuffle order) axes = shuffled_axes axes order
moved_axes (reshape sizes) axes = axes
moved_axes (chip offset axis) axes = remove axes axis
moved_axes (reverse flags) axes = reversed_axes axes flags
moved_axes (stride steps) axes = strided_axes axes steps
