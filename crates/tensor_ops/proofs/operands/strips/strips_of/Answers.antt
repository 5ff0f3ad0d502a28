use Rattle.std.proofs.Common.{◌≡◌, ◌+◌, ◌<◌, length, get_or, ap, sym, subst, true, ◌∙◌, arith}
use Rattle.std.proofs.lemmas.List.FromFn.{get_or-range_with_len, length-range_with_len}
use Rattle.std.specs.Cow.{cow_slice_items}
use Rattle.std.specs.List.{range_with_len}
use Rattle.tensor_shape.specs.Index.{size_of}
use Rattle.tensor_values.specs.Values.{value_in}
use Rattle.tensor_terms.specs.Reduction.{are_axes}
use Rattle.tensor_terms.specs.Merged.{dims_at, others}
use Rattle.tensor_ops.proofs.FirstAxes.{offsets-first}
use Rattle.tensor_ops.proofs.OperandRows.{operand-made}
use Rattle.tensor_views.proofs.OffsetTables.{kept-others, has_tables}
use Rattle.tensor_views.proofs.OffsetTables.{sum_of_tables-merged, sum_of_tables-below}
use Rattle.tensor_terms.proofs.OtherAxes.{are_axes-others}
use Rattle.tensor_terms.proofs.DimsAt.{size_of-dims_at-le}
use Rattle.tensor_ops.proofs.operands.strips.strips_of.Goals as goal

pub offsets-requires : goal.offsets-requires
offsets-requires c =
    subst (λ axes. are_axes (length c.args.dims.now) axes ≡ true)
    (sym (kept-others c.args.axes.now c.args.dims.now _ _ _ c.as_slice-rank.ensures.value
    c.as_slice.ensures.value c.others-kept.ensures))
    (are_axes-others c.args.axes.now (length c.args.dims.now))

pub new-requires-clause-inside : goal.new-requires-clause-inside
new-requires-clause-inside c x q row value =
    let axes = c.args.axes.now in
    let ds = c.args.dims.now in
    let n = size_of (dims_at axes ds) in
    let starts = c.in_ok-starts.starts.items in
    let width = c.strip_width.ensures.value c.requires.first in
    let tables = has_tables starts (range_with_len 0 n) _ axes ds c.requires.axes
    (kept-others axes ds _ _ _ c.as_slice-rank.ensures.value c.as_slice.ensures.value
    c.others-kept.ensures)
    (record { len = c.in_ok-starts.ensures.len; each = c.in_ok-starts.ensures.each })
    (offsets-first ds axes c.requires.axes c.requires.first c.requires.some) in
    omega (
      arith,
      c.requires.values,
      width,
      get_or-range_with_len 0 n q 0 (omega (arith, width)),
      sum_of_tables-below starts (range_with_len 0 n) axes ds tables x q row
          (omega (arith, width, length-range_with_len 0 n)),
    )

pub new-requires-clause-few : goal.new-requires-clause-few
new-requires-clause-few c =
    let axes = c.args.axes.now in
    let ds = c.args.dims.now in
    let n = size_of (dims_at axes ds) in
    let starts = c.in_ok-starts.starts.items in
    let width = c.strip_width.ensures.value c.requires.first in
    let tables = has_tables starts (range_with_len 0 n) _ axes ds c.requires.axes
    (kept-others axes ds _ _ _ c.as_slice-rank.ensures.value c.as_slice.ensures.value
    c.others-kept.ensures)
    (record { len = c.in_ok-starts.ensures.len; each = c.in_ok-starts.ensures.each })
    (offsets-first ds axes c.requires.axes c.requires.first c.requires.some) in
    omega (
      arith,
      c.as_slice-rank.ensures.legal.elements,
      tables.rows.len,
      size_of-dims_at-le (others axes (length ds)) ds (are_axes-others axes (length ds)),
    )

pub new-requires-clause-some : goal.new-requires-clause-some
new-requires-clause-some c =
    omega (arith, c.strip_width.ensures.value c.requires.first, c.requires.some)

pub returns : goal.returns
returns c =
    let axes = c.args.axes.now in
    let ds = c.args.dims.now in
    let n = size_of (dims_at axes ds) in
    let starts = c.in_ok-starts.starts.items in
    let width = c.strip_width.ensures.value c.requires.first in
    let tables = has_tables starts (range_with_len 0 n) _ axes ds c.requires.axes
    (kept-others axes ds _ _ _ c.as_slice-rank.ensures.value c.as_slice.ensures.value
    c.others-kept.ensures)
    (record { len = c.in_ok-starts.ensures.len; each = c.in_ok-starts.ensures.each })
    (offsets-first ds axes c.requires.axes c.requires.first c.requires.some) in
    operand-made _ _ _ _ _ _ _ _ _ c.new.ensures.count c.new.ensures.len c.new.ensures.each
    (record {
      count = tables.rows.len;
      len = width;
      each = λ x q row value.
          let within : q < n = omega (arith, width) in
          let at : get_or (range_with_len 0 n) q 0 ≡ q =
          get_or-range_with_len 0 n q 0 within ∙ omega arith in
          ap (λ o. value_in (cow_slice_items c.args.values) (get_or starts x 0 + o))
          (sym at)
          ∙ ap (λ p. value_in (cow_slice_items c.args.values) p)
          (sum_of_tables-merged starts (range_with_len 0 n) axes ds tables x q row
          (omega (arith, length-range_with_len 0 n)));
    })
