-- A view over the places of another view, as one view.
use Rattle.std.specs.Prelude.{◌≡◌, ℕ, ◌+◌, ◌-◌, ◌*◌, ◌<◌, List, [], ◌∷◌}
use Rattle.tensor_views.specs.View.{view_size, reached}
use Rattle.tensor_views.specs.declared.axis.Axis.{Axis}

-- the distance of the highest place that axes reach from their start
abbrev pub span : List Axis → ℕ
span [] = 0
span (a ∷ rest) = (a.size - 1) * a.step + span rest

-- a view that reaches, at each place, the place that the second view reaches where the first one
-- leads
pub record IsComposition (start : ℕ) (axes : List Axis) (from : ℕ) (first : List Axis)
    (onto : ℕ) (second : List Axis) : Type 0 where
  pub size : view_size axes ≡ view_size first
  pub reaches : (p : ℕ) → p < view_size first
      → reached start axes p ≡ reached onto second (reached from first p)
