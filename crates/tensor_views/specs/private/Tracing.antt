-- How each axis of a view is traced along the axes of another view.
use Rattle.std.specs.Prelude.{◌≡◌, ℕ, ◌+◌, ◌-◌, ◌*◌, ◌/◌, ◌%◌, List, [], ◌∷◌}
use Rattle.std.specs.Prelude.{Bool, not, ◌&&◌, nat_eq, nat_lt, if◌then◌else◌}
use Rattle.tensor_views.specs.Composing.{span}
use Rattle.tensor_views.specs.Forward.{forward}
use Rattle.tensor_views.specs.View.{view_size, reached}
use Rattle.tensor_views.specs.declared.composing.Trace.{Trace}
use Rattle.tensor_views.specs.declared.composing.Trace.TheVariants.{Open, Traced}
use Rattle.tensor_views.specs.declared.axis.Axis.{Axis}

-- whether an axis passes a stride in whole turns: the stride is more than one of its steps, and the
-- size is a multiple of the number of these steps
abbrev pub is_split : ℕ → Axis → Bool
is_split stride a =
    nat_lt 0 a.step && (nat_eq (stride % a.step) 0 && (nat_lt 1 (stride / a.step)
    && (nat_lt (stride / a.step) a.size && nat_eq (a.size % (stride / a.step)) 0)))

-- the axes, with each that passes the stride in whole turns split into two
abbrev pub split_axes : ℕ → List Axis → List Axis
split_axes stride [] = []
split_axes stride (a ∷ rest) =
    if is_split stride a
    then record { size = stride / a.step; step = a.step; reversed = a.reversed }
    ∷ record { size = a.size / (stride / a.step); step = stride; reversed = a.reversed }
    ∷ split_axes stride rest
    else a ∷ split_axes stride rest

-- axes that reach the same places as others
pub record IsSameView (axes others : List Axis) : Type 0 where
  pub size : view_size axes ≡ view_size others
  pub reaches : (p : ℕ) → reached 0 axes p ≡ reached 0 others p
  pub span : span axes ≡ span others

-- a trace of an axis of which nothing is traced yet
abbrev pub opened : Axis → Trace
opened a = Open a

-- the axis of a trace with its steps in the places that remain
abbrev pub left_axis : Trace → Axis
left_axis (Open a) = a
left_axis (Traced a) = forward a.size 0

-- the axis of a trace with its steps in the operand
abbrev pub traced_axis : Trace → Axis
traced_axis (Open a) = forward a.size 0
traced_axis (Traced a) = a

-- whether an axis has its steps along `first`, the first remaining axis
abbrev pub goes_along : Axis → Axis → Bool
goes_along first a = nat_lt 1 a.size && not (nat_eq (a.step % first.size) 0)

-- the axis along `first`, with both steps multiplied
abbrev pub traced_by : Axis → Axis → Axis
traced_by first a = record {
  size = a.size;
  step = a.step * first.step;
  reversed = if first.reversed then not a.reversed else a.reversed;
}

-- an axis whose steps lie past `first`
abbrev pub beyond : Axis → Axis → Axis
beyond first a = record { size = a.size; step = a.step / first.size; reversed = a.reversed }

-- a trace after the first remaining axis
abbrev pub passed : Axis → Trace → Trace
passed first (Open a) = if goes_along first a then Traced (traced_by first a) else Open (beyond first a)
passed first (Traced a) = Traced a

-- how far the open traces reach along `first`
abbrev pub extent_along : Axis → List Trace → ℕ
extent_along first [] = 0
extent_along first (Open a ∷ rest) =
    if goes_along first a
    then (a.size - 1) * a.step + extent_along first rest
    else extent_along first rest
extent_along first (Traced a ∷ rest) = extent_along first rest
