use Rattle.std.proofs.Common.{◌/◌, ◌*◌}
use Rattle.std.proofs.Common.{slice_index, ap, sym, rules, ◌∙◌, arith}
use Rattle.std.proofs.Math.Nat.{mod-lt, mod-add-div}
use Rattle.tensor_views.specs.View.{reached}
use Rattle.tensor_views.proofs.Mapped.{mapped-more, mapped-length}
use Rattle.tensor_views.proofs.ViewRows.{first-below, row-inside, row-fits, place-reached}
use Rattle.tensor_views.proofs.Views.{first-of-row, index-from-first}
use Rattle.tensor_views.proofs.listed_places.looked_up.Goals as goal

pub row_of-row-requires : goal.row_of-row-requires
row_of-row-requires c =
    let first = c.first_axis.ensures in
    let below = first-below c.args.places.now _ c.in-Some.first.now c.in-Some.ensures.value
    c.requires.within in
    let inside = row-inside c.args.view.start c.args.view.axes.now _ _ _ first.size first.reached below in
    record {
      size = inside.0;
      within = inside.1;
      fits = row-fits c.args.view.start c.args.view.axes.now _ _ _ first.size first.reached below
          c.requires.fits;
    }

pub loop-place-init : goal.loop-place-init
loop-place-init c =
    let axis = c.first_axis.result.0 in
    let row = c.row_of-row in
    let is = first-of-row axis.size row.result.first (c.in-Some.first.now / axis.size) (search rules) row.ensures.first in
    record {
      items = c.in_ok-sources.ensures.items;
      room = c.in_ok-sources.ensures.exact;
      first = row.ensures.first ∙ ap (λ q. axis.size * q) (sym is);
      start = row.ensures.start ∙ ap (reached c.args.view.start c.first_axis.result.1.now) (sym is);
    }

pub row_with-row-requires : goal.row_with-row-requires
row_with-row-requires c =
    let first = c.first_axis.ensures in
    let below = c.requires.within c.loop-place.place-index c.loop-place-test.true in
    let inside = row-inside c.args.view.start c.args.view.axes.now _ _ _ first.size first.reached below in
    record {
      size = inside.0;
      within = inside.1;
      fits = row-fits c.args.view.start c.args.view.axes.now _ _ _ first.size first.reached below
          c.requires.fits;
      row_first = c.loop-place.invariant.first;
      row_start = c.loop-place.invariant.start;
    }

pub overflow_sub-place : goal.overflow_sub-place
overflow_sub-place c =
    omega (
      arith,
      c.row_with-row.ensures.first,
      mod-add-div
          (slice_index c.args.places.now c.loop-place.place-index) c.first_axis.result.0.size,
    )

pub steps_to-steps-requires : goal.steps_to-steps-requires
steps_to-steps-requires c =
    let first = c.first_axis.ensures in
    let p = slice_index c.args.places.now c.loop-place.place-index in
    let below = c.requires.within c.loop-place.place-index c.loop-place-test.true in
    let inside = row-inside c.args.view.start c.args.view.axes.now _ _ _ first.size first.reached below in
    rw (index-from-first c.first_axis.result.0.size c.row_with-row.result.first p
    c.row_with-row.ensures.first)
    (mod-lt p inside.0)

pub overflow_mul-steps : goal.overflow_mul-steps
overflow_mul-steps c =
    let first = c.first_axis.ensures in
    let below = c.requires.within c.loop-place.place-index c.loop-place-test.true in
    let here = place-reached c.args.view.start c.args.view.axes.now _ _ _ first.size first.reached below _ _ _
    c.row_with-row.ensures.first c.row_with-row.ensures.start c.steps_to-steps.ensures in
    omega (arith, here, c.requires.fits _ below)

pub overflow_add-row : goal.overflow_add-row
overflow_add-row c =
    let first = c.first_axis.ensures in
    let below = c.requires.within c.loop-place.place-index c.loop-place-test.true in
    let here = place-reached c.args.view.start c.args.view.axes.now _ _ _ first.size first.reached below _ _ _
    c.row_with-row.ensures.first c.row_with-row.ensures.start c.steps_to-steps.ensures in
    omega (arith, here, c.requires.fits _ below)

pub overflow_cast-row : goal.overflow_cast-row
overflow_cast-row c =
    let first = c.first_axis.ensures in
    let below = c.requires.within c.loop-place.place-index c.loop-place-test.true in
    let here = place-reached c.args.view.start c.args.view.axes.now _ _ _ first.size first.reached below _ _ _
    c.row_with-row.ensures.first c.row_with-row.ensures.start c.steps_to-steps.ensures in
    omega (arith, here, c.requires.fits _ below)

pub push_reserved-requires : goal.push_reserved-requires
push_reserved-requires c =
    let inv = c.loop-place.invariant in
    let long = mapped-length (reached c.args.view.start c.args.view.axes.now) c.args.places.now
    c.loop-place.place-index
    c.loop-place.sources.items inv.items c.loop-place.auto.place-index-end in
    omega (arith, long, inv.room, c.loop-place-test.true)

pub loop-place-preserved : goal.loop-place-preserved
loop-place-preserved c =
    let axis = c.first_axis.result.0 in
    let first = c.first_axis.ensures in
    let row = c.row_with-row in
    let inv = c.loop-place.invariant in
    let p = slice_index c.args.places.now c.loop-place.place-index in
    let below = c.requires.within c.loop-place.place-index c.loop-place-test.true in
    let inside = row-inside c.args.view.start c.args.view.axes.now _ _ _ first.size first.reached below in
    let is = first-of-row axis.size row.result.first (p / axis.size) inside.0 row.ensures.first in
    let here = place-reached c.args.view.start c.args.view.axes.now _ _ _ first.size first.reached below _ _ _
    row.ensures.first row.ensures.start c.steps_to-steps.ensures in
    record {
      items =
          mapped-more (reached c.args.view.start c.args.view.axes.now) c.args.places.now
          c.loop-place.place-index c.loop-place.sources.items inv.items
          0 _ _ c.loop-place-test.true c.push_reserved.ensures.items here;
      room = c.push_reserved.ensures.capacity ∙ inv.room;
      first = row.ensures.first ∙ ap (λ q. axis.size * q) (sym is);
      start = row.ensures.start ∙ ap (reached c.args.view.start c.first_axis.result.1.now) (sym is);
    }
