-- The places of index lists that are merged from two parts, by the steps of their axes.
use Rattle.std.proofs.Common.{◌≡◌, ℕ, ◌+◌, List, [], ◌∷◌, ◌++◌, length, get_or, true}
use Rattle.std.proofs.Common.{sym, ◌∙◌, arith}
use Rattle.tensor_shape.specs.Index.{IsIndexOf, place}
use Rattle.tensor_shape.proofs.Places.{length-IsIndexOf}
use Rattle.tensor_views.specs.Axes.{axes_from, are_along, by_steps}
use Rattle.tensor_views.specs.private.MovedAxes.{shuffled_axes}
use Rattle.tensor_terms.specs.Movement.{scattered}
use Rattle.tensor_terms.specs.Reduction.{are_axes}
use Rattle.tensor_terms.specs.Merged.{others, dims_at, merged}
use Rattle.tensor_views.specs.declared.axis.Axis.{Axis}
use Rattle.tensor_views.proofs.AxisLists.{are_along-from, by_steps-from, length-along}
use Rattle.tensor_terms.proofs.Moved.{length-scattered}
use Rattle.tensor_terms.proofs.Moved.{zeros, get_or-zeros}
use Rattle.tensor_views.proofs.Moves.{by_steps-zeros, by_steps-set}
use Rattle.tensor_terms.proofs.Moved.{scattered-other}
use Rattle.tensor_terms.proofs.OtherAxes.{are_axes-first, are_axes-others, are_axes-all}
use Rattle.tensor_terms.proofs.Weaving.{length-zeros, length-dims_at}

-- a scattered index list has the steps of its numbers
by_steps-scattered : (axes : List Axis) (ds order is : List ℕ) → are_along axes ds ≡ true
    → are_axes (length ds) order ≡ true
    → by_steps axes (scattered order is (zeros ds)) ≡ by_steps (shuffled_axes axes order) is
by_steps-scattered axes ds [] is along once = by_steps-zeros axes ds
by_steps-scattered axes ds (s ∷ ss) [] along once = by_steps-zeros axes ds
by_steps-scattered axes ds (s ∷ ss) (i ∷ is) along once =
    let axis = are_axes-first (length ds) s ss once in
    let js : List ℕ = scattered ss is (zeros ds) in
    let long_ds : length js ≡ length ds = length-scattered ss is (zeros ds) ∙ length-zeros ds in
    let long_axes = length-along axes ds along in
    let none : get_or js s 0 ≡ 0 = scattered-other s ss is (zeros ds) axis.alone
    ∙ get_or-zeros ds s in
    let more = by_steps-set axes js s i (omega (arith, axis.below)) (omega arith) none in
    let rest = by_steps-scattered axes ds ss is along axis.rest in
    omega (arith, more, rest)

-- so its place is theirs, added up
pub place-scattered : (ds order is : List ℕ) → are_axes (length ds) order ≡ true
    → place ds (scattered order is (zeros ds)) ≡ by_steps (shuffled_axes (axes_from 1 ds) order) is
place-scattered ds order is once =
    sym (by_steps-from 1 ds (scattered order is (zeros ds)))
    ∙ by_steps-scattered (axes_from 1 ds) ds order is (are_along-from 1 ds) once

-- the steps of two parts
pub by_steps-append : (axes : List Axis) (xs ys js is : List ℕ) → length js ≡ length xs
    → by_steps (shuffled_axes axes (xs ++ ys)) (js ++ is)
    ≡ by_steps (shuffled_axes axes xs) js + by_steps (shuffled_axes axes ys) is
by_steps-append axes [] ys [] is long = omega arith
by_steps-append axes [] ys (j ∷ js) is long = absurd (omega arith)
by_steps-append axes (x ∷ xs) ys [] is long = absurd (omega arith)
by_steps-append axes (x ∷ xs) ys (j ∷ js) is long =
    omega (arith, by_steps-append axes xs ys js is (omega arith))

module _ (axes ds : List ℕ) (legal : are_axes (length ds) axes ≡ true) where
  -- the place of a merged index list is that of its parts, added up
  pub place-merged : (js is : List ℕ) → IsIndexOf (dims_at axes ds) js
      → place ds (merged axes ds js is)
      ≡ place ds (scattered axes js (zeros ds)) + place ds
      (scattered (others axes (length ds)) is (zeros ds))
  place-merged js is first =
      let long : length js ≡ length axes =
      length-IsIndexOf (dims_at axes ds) js first ∙ length-dims_at axes ds in
      let steps = by_steps-append (axes_from 1 ds) axes
      (others axes (length ds)) js is long in
      let whole = place-scattered ds (axes ++ others axes (length ds)) (js ++ is)
      (are_axes-all axes (length ds) legal) in
      let one = place-scattered ds axes js legal in
      let two = place-scattered ds (others axes (length ds)) is
      (are_axes-others axes (length ds)) in
      omega (arith, steps, whole, one, two)
