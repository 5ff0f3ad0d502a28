use Rattle.std.proofs.Common.{◌≡◌, ℕ, Bool, true, false, not, ◌-◌, ◌<◌, ◌≤◌, List, length, get_or}
use Rattle.std.proofs.Common.{subst, ap, sym, ◌∙◌, arith}
use Rattle.std.specs.Cow.{cow_slice_items}
use Rattle.std.specs.List.{filter, range_with_len}
use Rattle.tensor_shape.specs.Index.{size_of}
use Rattle.tensor_shape.proofs.Sizes.{size_of-le-bulk_of}
use Rattle.tensor_terms.specs.Movement.{is_among}
use Rattle.tensor_views.specs.Offsets.{offset_of}
use Rattle.tensor_terms.specs.Reduction.{are_axes}
use Rattle.tensor_terms.specs.Merged.{dims_at}
use Rattle.tensor_ops.proofs.Dropping.{kept_after, dropped_after, AreTables, size-kept}
use Rattle.tensor_ops.proofs.Dropping.{group-le, table_place-below, folded-reduced}
use Rattle.tensor_terms.proofs.DimsAt.{size_of-dims_at-le}
use Rattle.tensor_terms.proofs.OtherAxes.{are_axes-picked}
use Rattle.tensor_ops.proofs.operands.reduction.Reduction.of.Goals as goal

-- what a test picks from the axes after one are axes
are_axes-after : (test : ℕ → Bool) (ds sizes axes : List ℕ) (after : ℕ) → sizes ≡ ds
    → after ≤ length sizes
    → axes ≡ filter test (range_with_len after (length sizes - after))
    → are_axes (length ds) axes ≡ true
are_axes-after test ds sizes axes after same within is =
    subst (λ l. are_axes (length ds) l ≡ true) (sym is)
    (are_axes-picked test (length ds) after (length sizes - after) (omega (arith, ap length same)))

pub offsets-requires : goal.offsets-requires
offsets-requires c =
    are_axes-after (λ k. not (is_among k c.args.axes.now)) c.args.dims.now
    c.as_slice-sizes.result.now c.as_slice.result.now
    c.next_among-further.result c.as_slice-sizes.ensures.value
    c.next_among-further.ensures.within
    (c.as_slice.ensures.value ∙ c.others.ensures)

pub offsets-requires-2 : goal.offsets-requires-2
offsets-requires-2 c =
    are_axes-after (λ k. is_among k c.args.axes.now) c.args.dims.now c.as_slice-sizes.result.now
    c.as_slice-2.result.now
    c.next_other-after.result c.as_slice-sizes.ensures.value c.next_other-after.ensures.within
    (c.as_slice-2.ensures.value ∙ c.among.ensures)

-- the tables, by what made them
module _ (ds axes sizes later gone : List ℕ) (first after further width run group : ℕ)
    (starts offsets : List ℕ) (same : sizes ≡ ds)
    (later_is : later ≡ kept_after axes further (length sizes))
    (gone_is : gone ≡ dropped_after axes after (length sizes))
    (order : first ≤ after) (order_kept : after ≤ further) (within : further ≤ length sizes)
    (before : (k : ℕ) → 0 ≤ k → k < first → is_among k axes ≡ false)
    (dropped : (k : ℕ) → first ≤ k → k < after → is_among k axes ≡ true)
    (kept : (k : ℕ) → after ≤ k → k < further → is_among k axes ≡ false)
    (width_is : width ≡ size_of (dims_at (range_with_len 0 (first - 0)) sizes))
    (run_is : run ≡ size_of (dims_at (range_with_len first (after - first)) sizes))
    (group_is : group ≡ size_of (dims_at (range_with_len after (further - after)) sizes))
    (starts_len : length starts ≡ size_of (dims_at later ds))
    (starts_each : (p : ℕ) → p < size_of (dims_at later ds)
    → get_or starts p 0 ≡ offset_of later ds p)
    (offsets_len : length offsets ≡ size_of (dims_at gone ds))
    (offsets_each : (p : ℕ) → p < size_of (dims_at gone ds)
    → get_or offsets p 0 ≡ offset_of gone ds p) where
  tables : AreTables ds axes first after further width run group starts offsets
  tables =
      let kept_all : later ≡ kept_after axes further (length ds) =
      later_is ∙ ap (λ l. kept_after axes further (length l)) same in
      let gone_all : gone ≡ dropped_after axes after (length ds) =
      gone_is ∙ ap (λ l. dropped_after axes after (length l)) same in
      record {
        order = order;
        order_kept = order_kept;
        within = omega (arith, within, ap length same);
        before = before;
        dropped = dropped;
        kept = kept;
        width_is = width_is ∙ ap (λ l. size_of (dims_at (range_with_len 0 (first - 0)) l)) same;
        run_is = run_is ∙ ap (λ l. size_of (dims_at (range_with_len first (after - first)) l)) same;
        group_is = group_is
            ∙ ap (λ l. size_of (dims_at (range_with_len after (further - after)) l)) same;
        starts_len = starts_len ∙ ap (λ l. size_of (dims_at l ds)) kept_all;
        starts_each = λ p below.
            starts_each p (subst (λ l. p < size_of (dims_at l ds)) (sym kept_all) below)
            ∙ ap (λ l. offset_of l ds p) kept_all;
        offsets_len = offsets_len ∙ ap (λ l. size_of (dims_at l ds)) gone_all;
        offsets_each = λ p below.
            offsets_each p (subst (λ l. p < size_of (dims_at l ds)) (sym gone_all) below)
            ∙ ap (λ l. offset_of l ds p) gone_all;
      }

pub invariant_of-result : goal.invariant_of-result
invariant_of-result c =
    let ds = c.args.dims.now in
    let made = tables ds c.args.axes.now c.as_slice-sizes.result.now c.as_slice.result.now
    c.as_slice-2.result.now
    c.next_among-first.result c.next_other-after.result c.next_among-further.result
    c.span.result c.span-2.result c.span-3.result
    c.in_ok-starts.starts.items c.in_ok-offsets.offsets.items
    c.as_slice-sizes.ensures.value (c.as_slice.ensures.value ∙ c.others.ensures)
    (c.as_slice-2.ensures.value ∙ c.among.ensures)
    c.next_other-after.ensures.order c.next_among-further.ensures.order
    c.next_among-further.ensures.within
    c.next_among-first.ensures.before c.next_other-after.ensures.before
    c.next_among-further.ensures.before
    c.span.ensures.value c.span-2.ensures.value c.span-3.ensures.value
    c.in_ok-starts.ensures.len c.in_ok-starts.ensures.each
    c.in_ok-offsets.ensures.len c.in_ok-offsets.ensures.each in
    record {
      few = omega (
        arith,
        c.requires,
        size_of-le-bulk_of
            ds,
        c.as_slice-sizes.ensures.legal.elements,
      );
      narrow = c.span.ensures.small;
      near = omega (
        arith,
        c.as_slice-sizes.ensures.legal.elements,
        group-le ds c.args.axes.now c.next_among-first.result c.next_other-after.result
            c.next_among-further.result c.span.result c.span-2.result c.span-3.result
            c.in_ok-starts.starts.items c.in_ok-offsets.offsets.items made,
      );
      few_starts = omega (
        arith,
        c.in_ok-starts.ensures.len,
        c.as_slice-sizes.ensures.legal.elements,
        size_of-dims_at-le c.as_slice.result.now ds
            (are_axes-after (λ k. not (is_among k c.args.axes.now)) ds c.as_slice-sizes.result.now
            c.as_slice.result.now c.next_among-further.result c.as_slice-sizes.ensures.value
            c.next_among-further.ensures.within (c.as_slice.ensures.value ∙ c.others.ensures)),
      );
      starts_low =
          λ k below. c.in_ok-starts.ensures.small k (omega (arith, c.in_ok-starts.ensures.len));
      offsets_low =
          λ k below. c.in_ok-offsets.ensures.small k (omega (arith, c.in_ok-offsets.ensures.len));
      inside = λ p q in_rows in_offsets.
          omega (
            arith,
            c.requires,
            table_place-below ds c.args.axes.now c.next_among-first.result c.next_other-after.result
                c.next_among-further.result c.span.result c.span-2.result c.span-3.result
                c.in_ok-starts.starts.items c.in_ok-offsets.offsets.items made p q in_rows
                in_offsets,
          );
    }

pub returns-clause-size : goal.returns-clause-size
returns-clause-size c =
    let ds = c.args.dims.now in
    let made = tables ds c.args.axes.now c.as_slice-sizes.result.now c.as_slice.result.now
    c.as_slice-2.result.now
    c.next_among-first.result c.next_other-after.result c.next_among-further.result
    c.span.result c.span-2.result c.span-3.result
    c.in_ok-starts.starts.items c.in_ok-offsets.offsets.items
    c.as_slice-sizes.ensures.value (c.as_slice.ensures.value ∙ c.others.ensures)
    (c.as_slice-2.ensures.value ∙ c.among.ensures)
    c.next_other-after.ensures.order c.next_among-further.ensures.order
    c.next_among-further.ensures.within
    c.next_among-first.ensures.before c.next_other-after.ensures.before
    c.next_among-further.ensures.before
    c.span.ensures.value c.span-2.ensures.value c.span-3.ensures.value
    c.in_ok-starts.ensures.len c.in_ok-starts.ensures.each
    c.in_ok-offsets.ensures.len c.in_ok-offsets.ensures.each in
    size-kept ds c.args.axes.now c.next_among-first.result c.next_other-after.result
    c.next_among-further.result c.span.result c.span-2.result c.span-3.result
    c.in_ok-starts.starts.items c.in_ok-offsets.offsets.items made

pub returns-clause-each : goal.returns-clause-each
returns-clause-each c = λ p below.
    let ds = c.args.dims.now in
    let made = tables ds c.args.axes.now c.as_slice-sizes.result.now c.as_slice.result.now
    c.as_slice-2.result.now
    c.next_among-first.result c.next_other-after.result c.next_among-further.result
    c.span.result c.span-2.result c.span-3.result
    c.in_ok-starts.starts.items c.in_ok-offsets.offsets.items
    c.as_slice-sizes.ensures.value (c.as_slice.ensures.value ∙ c.others.ensures)
    (c.as_slice-2.ensures.value ∙ c.among.ensures)
    c.next_other-after.ensures.order c.next_among-further.ensures.order
    c.next_among-further.ensures.within
    c.next_among-first.ensures.before c.next_other-after.ensures.before
    c.next_among-further.ensures.before
    c.span.ensures.value c.span-2.ensures.value c.span-3.ensures.value
    c.in_ok-starts.ensures.len c.in_ok-starts.ensures.each
    c.in_ok-offsets.ensures.len c.in_ok-offsets.ensures.each in
    let size = size-kept ds c.args.axes.now c.next_among-first.result c.next_other-after.result
    c.next_among-further.result c.span.result c.span-2.result c.span-3.result
    c.in_ok-starts.starts.items c.in_ok-offsets.offsets.items made in
    folded-reduced ds c.args.axes.now c.next_among-first.result c.next_other-after.result
    c.next_among-further.result c.span.result c.span-2.result c.span-3.result
    c.in_ok-starts.starts.items c.in_ok-offsets.offsets.items made c.args.reducer
    (cow_slice_items c.args.values) p (omega arith)
