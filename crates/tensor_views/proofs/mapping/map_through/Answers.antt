use Rattle.std.proofs.Common.{◌≡◌, ◌≢◌, ℕ, ◌+◌, ◌-◌, ◌*◌, ◌/◌, ◌%◌, ◌<◌, ◌^◌, List, ◌∷◌, length}
use Rattle.std.proofs.Common.{slice_index, slice_set, refl, ap, sym, ◌∙◌, arith, below_more, rules}
use Rattle.std.proofs.Common.{get_or-set_other, get_or-set_same}
use Rattle.std.proofs.lemmas.List.{length-set, get_or_default}
use Rattle.std.specs.List.{slice_get}
use Rattle.tensor_views.specs.View.{reached, steps_to, view_size}
use Rattle.tensor_views.specs.declared.axis.Axis.{Axis}
use Rattle.tensor_views.proofs.ViewRows.{first-below, row-inside, rows-fit, row-fits, place-along}
use Rattle.tensor_views.proofs.ViewRows.{place-reached}
use Rattle.tensor_views.proofs.Views.{first-of-row}
use Rattle.tensor_views.proofs.mapping.map_through.Goals as goal

-- the places up to the one that is set
set-next : (f : ℕ → ℕ) (xs : List ℕ) (t v : ℕ) → t < length xs
    → ((s : ℕ) → s < t → slice_index xs s ≡ f s) → v ≡ f t → (s : ℕ) → s < t + 1
    → slice_index (slice_set xs t v) s ≡ f s
set-next f xs t v room before here =
    below_more _ _
    (λ s h. let ne : s ≢ t = omega arith in rw get_or-set_other (before s h))
    (rw get_or-set_same here)

-- a place of a view along two axes and slower ones
module _ (start : ℕ) (axes others slower : List Axis) (axis second : Axis) (p : ℕ)
    (size : view_size (axis ∷ others) ≡ view_size axes)
    (same : (s q : ℕ) → reached s (axis ∷ others) q ≡ reached s axes q)
    (other_size : view_size (second ∷ slower) ≡ view_size others)
    (other_same : (s q : ℕ) → reached s (second ∷ slower) q ≡ reached s others q)
    (fits : (q : ℕ) → q < view_size axes → reached start axes q < 2 ^ 32)
    (below : p < view_size axes) where
  rest-below : (0 < axis.size) × (p / axis.size < view_size others)
  rest-below = row-inside start axes axis others p size same below

  others-fit : (q : ℕ) → q < view_size others → reached start others q < 2 ^ 32
  others-fit = rows-fit start axes axis others p size same below fits

  second-inside : (0 < second.size) × (p / axis.size / second.size < view_size slower)
  second-inside = row-inside start others second slower (p / axis.size) other_size other_same rest-below.1

  second-fits : reached start slower (p / axis.size / second.size) < 2 ^ 32
  second-fits = row-fits start others second slower (p / axis.size) other_size other_same
      rest-below.1 others-fit

  rest-reached : (first row : ℕ) → first ≡ second.size * (p / axis.size / second.size)
      → row ≡ reached start slower (p / axis.size / second.size)
      → row + steps_to second (p / axis.size - first) * second.step
      ≡ reached start others (p / axis.size)
  rest-reached first row is_first is_row =
      place-reached start others second slower (p / axis.size) other_size other_same rest-below.1
      first row _ is_first is_row refl

  all-reached : (row : ℕ) → row ≡ reached start others (p / axis.size)
      → row + steps_to axis (p % axis.size) * axis.step ≡ reached start axes p
  all-reached row is = place-along start axes axis others p size same below row _ is refl

pub row_of-row-requires-clause-within : goal.row_of-row-requires-clause-within
row_of-row-requires-clause-within c =
    let one = c.first_axis.ensures in
    let two = c.first_axis-2.ensures in
    let below = first-below c.args.places.now.items _ c.in-Some.first.now
    (c.in-Some.ensures.value ∙ ap (λ xs. slice_get xs 0) c.deref.ensures.value) c.requires.within in
    (second-inside c.args.view.start c.args.view.axes.now _ _ _ _ _ one.size one.reached two.size two.reached
    c.requires.fits below).1

pub row_of-row-requires-clause-fits : goal.row_of-row-requires-clause-fits
row_of-row-requires-clause-fits c =
    let one = c.first_axis.ensures in
    let two = c.first_axis-2.ensures in
    let below = first-below c.args.places.now.items _ c.in-Some.first.now
    (c.in-Some.ensures.value ∙ ap (λ xs. slice_get xs 0) c.deref.ensures.value) c.requires.within in
    second-fits c.args.view.start c.args.view.axes.now _ _ _ _ _ one.size one.reached two.size two.reached
    c.requires.fits below

pub loop-k-init : goal.loop-k-init
loop-k-init c =
    let second = c.first_axis-2.result.0 in
    let row = c.row_of-row in
    let rest = c.in-Some.first.now / c.first_axis.result.0.size in
    let is = first-of-row second.size row.result.first (rest / second.size) (search rules)
    row.ensures.first in
    record {
      len = refl;
      mapped = λ k none. absurd (omega arith);
      left = λ k later. refl;
      first = row.ensures.first ∙ ap (λ q. second.size * q) (sym is);
      start = row.ensures.start ∙ ap (reached c.args.view.start c.first_axis-2.result.1.now) (sym is);
    }

pub row_with-row-requires-clause-within : goal.row_with-row-requires-clause-within
row_with-row-requires-clause-within c =
    let one = c.first_axis.ensures in
    let two = c.first_axis-2.ensures in
    let k = c.loop-k.k in
    let places = c.loop-k.places.items in
    let read : c.index-place.result.now ≡ slice_index c.args.places.now.items k =
    c.index-place.ensures ∙ get_or_default places k c.index-place.result.now 0 (omega arith)
    ∙ c.loop-k.invariant.left k (omega arith) in
    let below : c.index-place.result.now < view_size c.args.view.axes.now =
    omega (arith, read, c.requires.within k (omega arith)) in
    (second-inside c.args.view.start c.args.view.axes.now _ _ _ _ _ one.size one.reached two.size two.reached
    c.requires.fits below).1

pub row_with-row-requires-clause-fits : goal.row_with-row-requires-clause-fits
row_with-row-requires-clause-fits c =
    let one = c.first_axis.ensures in
    let two = c.first_axis-2.ensures in
    let k = c.loop-k.k in
    let places = c.loop-k.places.items in
    let read : c.index-place.result.now ≡ slice_index c.args.places.now.items k =
    c.index-place.ensures ∙ get_or_default places k c.index-place.result.now 0 (omega arith)
    ∙ c.loop-k.invariant.left k (omega arith) in
    let below : c.index-place.result.now < view_size c.args.view.axes.now =
    omega (arith, read, c.requires.within k (omega arith)) in
    second-fits c.args.view.start c.args.view.axes.now _ _ _ _ _ one.size one.reached two.size two.reached
    c.requires.fits below

pub along_axis-reached-requires-clause-fits : goal.along_axis-reached-requires-clause-fits
along_axis-reached-requires-clause-fits c =
    let one = c.first_axis.ensures in
    let two = c.first_axis-2.ensures in
    let k = c.loop-k.k in
    let places = c.loop-k.places.items in
    let p = c.index-place.result.now in
    let read : p ≡ slice_index c.args.places.now.items k =
    c.index-place.ensures ∙ get_or_default places k p 0 (omega arith)
    ∙ c.loop-k.invariant.left k (omega arith) in
    let below : p < view_size c.args.view.axes.now =
    omega (arith, read, c.requires.within k (omega arith)) in
    let here = rest-reached c.args.view.start c.args.view.axes.now _ _ _ _ p one.size one.reached two.size
    two.reached c.requires.fits below _ _ c.row_with-row.ensures.first c.row_with-row.ensures.start in
    let rest = rest-below c.args.view.start c.args.view.axes.now _ _ _ _ p one.size one.reached two.size
    two.reached c.requires.fits below in
    omega (
      arith,
      here,
      others-fit c.args.view.start c.args.view.axes.now _ _ _ _ p one.size one.reached
          two.size two.reached c.requires.fits below _ rest.1,
    )

pub along_axis-requires-clause-fits : goal.along_axis-requires-clause-fits
along_axis-requires-clause-fits c =
    let one = c.first_axis.ensures in
    let two = c.first_axis-2.ensures in
    let k = c.loop-k.k in
    let places = c.loop-k.places.items in
    let p = c.index-place.result.now in
    let read : p ≡ slice_index c.args.places.now.items k =
    c.index-place.ensures ∙ get_or_default places k p 0 (omega arith)
    ∙ c.loop-k.invariant.left k (omega arith) in
    let below : p < view_size c.args.view.axes.now =
    omega (arith, read, c.requires.within k (omega arith)) in
    let here = rest-reached c.args.view.start c.args.view.axes.now _ _ _ _ p one.size one.reached two.size
    two.reached c.requires.fits below _ _ c.row_with-row.ensures.first c.row_with-row.ensures.start in
    let whole = all-reached c.args.view.start c.args.view.axes.now _ _ _ _ p one.size one.reached two.size
    two.reached c.requires.fits below _ (c.along_axis-reached.ensures ∙ here) in
    omega (arith, whole, c.requires.fits p below)

pub loop-k-preserved : goal.loop-k-preserved
loop-k-preserved c =
    let one = c.first_axis.ensures in
    let two = c.first_axis-2.ensures in
    let second = c.first_axis-2.result.0 in
    let row = c.row_with-row in
    let k = c.loop-k.k in
    let places = c.loop-k.places.items in
    let p = c.index-place.result.now in
    let rest = p / c.first_axis.result.0.size in
    let reach = reached c.args.view.start c.args.view.axes.now in
    let read : p ≡ slice_index c.args.places.now.items k =
    c.index-place.ensures ∙ get_or_default places k p 0 (omega arith)
    ∙ c.loop-k.invariant.left k (omega arith) in
    let below : p < view_size c.args.view.axes.now =
    omega (arith, read, c.requires.within k (omega arith)) in
    let here = rest-reached c.args.view.start c.args.view.axes.now _ _ _ _ p one.size one.reached two.size
    two.reached c.requires.fits below _ _ row.ensures.first row.ensures.start in
    let whole = all-reached c.args.view.start c.args.view.axes.now _ _ _ _ p one.size one.reached two.size
    two.reached c.requires.fits below _ (c.along_axis-reached.ensures ∙ here) in
    let inside = second-inside c.args.view.start c.args.view.axes.now _ _ _ _ p one.size one.reached two.size
    two.reached c.requires.fits below in
    let is = first-of-row second.size row.result.first (rest / second.size) inside.0
    row.ensures.first in
    let v = c.along_axis.result in
    record {
      len = length-set places k v ∙ c.loop-k.invariant.len;
      mapped = set-next (λ s. reach (slice_index c.args.places.now.items s)) places k v (omega arith)
          c.loop-k.invariant.mapped (c.along_axis.ensures ∙ whole ∙ ap reach read);
      left = λ s later.
          let ne : s ≢ k = omega arith in
          rw get_or-set_other (c.loop-k.invariant.left s (omega arith));
      first = row.ensures.first ∙ ap (λ q. second.size * q) (sym is);
      start = row.ensures.start ∙ ap (reached c.args.view.start c.first_axis-2.result.1.now) (sym is);
    }
