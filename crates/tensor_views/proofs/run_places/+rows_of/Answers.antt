use Rattle.std.proofs.Common.{◌≡◌, ℕ, ◌+◌, ◌-◌, ◌/◌, ◌<◌, ◌≤◌, List, [], ◌∷◌, ◌∙◌, length, map}
use Rattle.std.proofs.Common.{false, ap, sym, arith}
use Rattle.std.specs.List.{range_with_len}
use Rattle.std.proofs.lemmas.Result.{IfOk-weaker}
use Rattle.std.proofs.lemmas.List.FromFn.{length-map-range_with_len}
use Rattle.tensor_views.specs.View.{along, reached, view_size}
use Rattle.tensor_values.proofs.Runs.{map-shifted}
use Rattle.tensor_views.proofs.Views.{alone-size, alone-reached, row-within, slower-below, rows-order, rows-within, rows-cover, laid-along}
use Rattle.tensor_views.proofs.run_places.+rows_of.Goals as goal

-- one row of one place
alone-along : (rows : List ℕ) (place first p : ℕ) → rows ≡ place ∷ [] → first ≤ p → p < first + 1
    → along rows (record { size = 1; step = 0; reversed = false }) first p ≡ place
alone-along rows place first p is above below =
    let same : p ≡ first = omega arith in
    let none : first / 1 - first / 1 ≡ 0 = omega arith in
    rw (is, same, none) (omega arith)

pub at-place-requires : goal.at-place-requires
at-place-requires t c =
    let below : c.args.first < view_size c.args.view.axes.now =
    omega (arith, c.requires.some, c.requires.within) in
    record { within = below; fits = c.requires.fits c.args.first below }

pub overflow_cast-place : goal.overflow_cast-place
overflow_cast-place t c =
    let below : c.args.first < view_size c.args.view.axes.now =
    omega (arith, c.requires.some, c.requires.within) in
    omega (arith, c.at-place.ensures, c.requires.fits c.args.first below)

pub returns-then-last-first-eq1 : goal.returns-then-last-first-eq1
returns-then-last-first-eq1 t c =
    let one : c.in_ok-vec-2.field-0.items ≡ c.at-place.result ∷ [] =
    c.in_ok-vec-2.ensures.items in
    record {
      size = omega arith;
      cover = omega (arith, ap length one);
      along = λ p above below.
          let same : p ≡ c.args.first = omega (arith, above, below) in
          alone-along _ _ c.args.first p one above (omega (arith, same))
          ∙ c.at-place.ensures ∙ ap (reached c.args.view.start c.args.view.axes.now) (sym same);
    }

pub nonzero_div-from : goal.nonzero_div-from
nonzero_div-from t c =
    let within = rw c.in-Some.ensures.cases.0 at c.requires.within in
    (row-within c.args.view.start c.in-Some.axis.now c.in-Some.slower.now (c.args.last - 1)
    (omega arith)).0

pub nonzero_div-to : goal.nonzero_div-to
nonzero_div-to t c =
    let within = rw c.in-Some.ensures.cases.0 at c.requires.within in
    (row-within c.args.view.start c.in-Some.axis.now c.in-Some.slower.now (c.args.last - 1)
    (omega arith)).0

pub laid_out-requires-clause-size : goal.laid_out-requires-clause-size
laid_out-requires-clause-size t c = c.in_ok-next.ensures.size

pub laid_out-requires-clause-order : goal.laid_out-requires-clause-order
laid_out-requires-clause-order t c =
    let within = rw c.in-Some.ensures.cases.0 at c.requires.within in
    omega (
      arith,
      rows-order c.args.view.start c.in-Some.axis.now c.in-Some.slower.now c.args.first
          c.args.last c.requires.some within,
    )

pub laid_out-requires-clause-rows : goal.laid_out-requires-clause-rows
laid_out-requires-clause-rows t c = rw c.deref.ensures.value c.in_ok-next.ensures.cover

pub returns-clause-size : goal.returns-clause-size
returns-clause-size t c =
    let within = rw c.in-Some.ensures.cases.0 at c.requires.within in
    (row-within c.args.view.start c.in-Some.axis.now c.in-Some.slower.now (c.args.last - 1)
    (omega arith)).0

pub rows_of-requires : goal.rows_of-requires
rows_of-requires t c =
    let split : c.args.view.axes.now ≡ c.in-Some.axis.now ∷ c.in-Some.slower.now = c.in-Some.ensures.cases.0 in
    let within = rw split at c.requires.within in
    let fits = rw split at c.requires.fits in
    let size = alone-size c.args.view.start c.in-Some.axis.now c.in-Some.slower.now c.if-axis-eq1.true in (
      omega (arith, c.decreases, ap length split),
      (
        c.requires.some,
        (
          omega arith,
          λ p below. rw (← alone-reached c.args.view.start c.in-Some.axis.now c.in-Some.slower.now c.if-axis-eq1.true p) (fits p (omega arith)),
        ),
      ),
    )

pub returns-then-axis-eq1-clause-along : goal.returns-then-axis-eq1-clause-along
returns-then-axis-eq1-clause-along t c =
    let split : c.args.view.axes.now ≡ c.in-Some.axis.now ∷ c.in-Some.slower.now = c.in-Some.ensures.cases.0 in
    IfOk-weaker c.rows_of.result _ _
    (λ r is p above below.
    is p above below ∙ sym (alone-reached c.args.view.start c.in-Some.axis.now c.in-Some.slower.now c.if-axis-eq1.true p)
    ∙ ap (λ l. reached c.args.view.start l p) (sym split))
    c.rows_of.ensures.along

pub rows_of-requires-2 : goal.rows_of-requires-2
rows_of-requires-2 t c =
    let a = c.in-Some.axis.now in
    let rest = c.in-Some.slower.now in
    let split : c.args.view.axes.now ≡ c.in-Some.axis.now ∷ c.in-Some.slower.now = c.in-Some.ensures.cases.0 in
    let within = rw split at c.requires.within in
    let fits = rw split at c.requires.fits in
    let some = (row-within c.args.view.start a rest (c.args.last - 1) (omega arith)).0 in (
      omega (arith, c.decreases, ap length split),
      (
        rows-order c.args.view.start a rest c.args.first c.args.last c.requires.some within,
        (
          rows-within c.args.view.start a rest c.args.first c.args.last c.requires.some within,
          slower-below c.args.view.start a rest _ fits some,
        ),
      ),
    )

pub laid_out-requires-clause-fits : goal.laid_out-requires-clause-fits
laid_out-requires-clause-fits t c =
    let a = c.in-Some.axis.now in
    let rest = c.in-Some.slower.now in
    let split : c.args.view.axes.now ≡ c.in-Some.axis.now ∷ c.in-Some.slower.now = c.in-Some.ensures.cases.0 in
    let within = rw split at c.requires.within in
    let fits = rw split at c.requires.fits in
    let some = (row-within c.args.view.start a rest (c.args.last - 1) (omega arith)).0 in
    let all = rows-within c.args.view.start a rest c.args.first c.args.last c.requires.some within in
    λ p above below.
    rw (c.deref.ensures.value, c.in_ok-next.ensures.along p above below) (slower-below c.args.view.start a rest _ fits some p (omega arith))

pub returns-clause-cover : goal.returns-clause-cover
returns-clause-cover t c =
    let a = c.in-Some.axis.now in
    let rest = c.in-Some.slower.now in
    let split : c.args.view.axes.now ≡ c.in-Some.axis.now ∷ c.in-Some.slower.now = c.in-Some.ensures.cases.0 in
    let within = rw split at c.requires.within in
    let rows : length c.in_ok-rows.rows.items ≡ (c.args.last - 1) / a.size + 1 - c.args.first / a.size =
    ap length c.in_ok-rows.ensures
    ∙ length-map-range_with_len (along c.deref.result.now c.in_ok-next.next (c.args.first / a.size)) (c.args.first / a.size) ((c.args.last - 1) / a.size + 1 - c.args.first / a.size) in
    rw rows (rows-cover c.args.view.start a rest c.args.first c.args.last c.requires.some within)

pub returns-clause-along : goal.returns-clause-along
returns-clause-along t c =
    let a = c.in-Some.axis.now in
    let rest = c.in-Some.slower.now in
    let split : c.args.view.axes.now ≡ c.in-Some.axis.now ∷ c.in-Some.slower.now = c.in-Some.ensures.cases.0 in
    let within = rw split at c.requires.within in
    let from = c.args.first / a.size in
    let count = (c.args.last - 1) / a.size + 1 - c.args.first / a.size in
    let rows : c.in_ok-rows.rows.items ≡ map (reached c.args.view.start rest) (range_with_len from count) =
    c.in_ok-rows.ensures
    ∙ map-shifted (along c.deref.result.now c.in_ok-next.next from) (reached c.args.view.start rest) from from count
    (λ k below. ap (λ l. along l c.in_ok-next.next from (from + k)) c.deref.ensures.value
    ∙ c.in_ok-next.ensures.along (from + k) (omega arith) (omega arith)) in
    λ p above below.
    laid-along c.args.view.start a rest c.args.first c.args.last c.requires.some within c.in_ok-rows.rows.items rows p above below
    ∙ ap (λ l. reached c.args.view.start l p) (sym split)
