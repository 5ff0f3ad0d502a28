-- A place of a view along an axis and slower ones: its row is in the slower view and starts within
-- bounds, and from there the place is reached.
use Rattle.std.proofs.Common.{◌≡◌, ◌<◌, ◌/◌, ◌%◌, ◌*◌, ◌+◌, ◌-◌, ◌^◌, List, [], ◌∷◌, ℕ, length}
use Rattle.std.proofs.Common.{Some, slice_index, ap, ◌∙◌, arith}
use Rattle.std.specs.List.{slice_get}
use Rattle.tensor_views.specs.View.{reached, steps_to, view_size}
use Rattle.tensor_views.specs.declared.axis.Axis.{Axis}
use Rattle.tensor_views.proofs.Views.{index-from-first, row-within, slower-below}

-- the first of places that are below a number
pub first-below : (ps : List ℕ) (n p : ℕ) → Some p ≡ slice_get ps 0
    → ((k : ℕ) → k < length ps → slice_index ps k < n) → p < n
first-below [] n p is within = (cc)
first-below (q ∷ ps) n p is within = let same : p ≡ q = (cc) in rw same (within 0 (omega arith))

module _ (start : ℕ) (axes : List Axis) (axis : Axis) (slower : List Axis) (p : ℕ)
    (size : view_size (axis ∷ slower) ≡ view_size axes)
    (same : (s q : ℕ) → reached s (axis ∷ slower) q ≡ reached s axes q)
    (below : p < view_size axes) where
  pub row-inside : (0 < axis.size) × (p / axis.size < view_size slower)
  row-inside = row-within start axis slower p (rw size below)

  pub rows-fit : ((q : ℕ) → q < view_size axes → reached start axes q < 2 ^ 32)
      → (q : ℕ) → q < view_size slower → reached start slower q < 2 ^ 32
  rows-fit fits q inside =
      slower-below start axis slower (2 ^ 32)
      (λ q inside. rw same (fits q (rw (← size) inside))) row-inside.0 q inside

  pub row-fits : ((q : ℕ) → q < view_size axes → reached start axes q < 2 ^ 32)
      → reached start slower (p / axis.size) < 2 ^ 32
  row-fits fits = rows-fit fits (p / axis.size) row-inside.1

  pub place-along : (row index : ℕ) → row ≡ reached start slower (p / axis.size)
      → index ≡ p % axis.size → row + steps_to axis index * axis.step ≡ reached start axes p
  place-along row index is_row is_index = rw (is_row, is_index) (same start p)

  pub place-reached : (first row steps : ℕ) → first ≡ axis.size * (p / axis.size)
      → row ≡ reached start slower (p / axis.size) → steps ≡ steps_to axis (p - first)
      → row + steps * axis.step ≡ reached start axes p
  place-reached first row steps is_first is_row is_steps =
      let at : steps ≡ steps_to axis (p % axis.size) =
      is_steps ∙ ap (steps_to axis) (index-from-first axis.size first p is_first) in
      rw (is_row, at) (same start p)
