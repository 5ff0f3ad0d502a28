use Rattle.std.proofs.Common.{ℕ, ℤ, ◌+◌, ◌<◌, length, slice_index, refl, arith}
use Rattle.std.specs.Cow.{cow_slice_items}
use Rattle.tensor_shape.specs.Index.{size_of}
use Rattle.tensor_ops.specs.private.Operand.{viewed_value}
use Rattle.tensor_values.specs.Values.{value_in}
use Rattle.tensor_views.specs.View.{AreAllApart}
use Rattle.tensor_ops.proofs.MappedRows.{IsMapped-along, starts-below, offsets-below, reached-none, mapped-inside, mapped-operand}
use Rattle.tensor_ops.proofs.OperandRows.{operand-made, operand-same, tables-operand}
use Rattle.tensor_views.proofs.OffsetTables.{sum_of_tables-below}
use Rattle.tensor_ops.proofs.operands.rows.rows_along.Goals as goal

pub are_apart-requires-clause-some : goal.are_apart-requires-clause-some
are_apart-requires-clause-some c = rw c.as_ref-view.ensures.axes (omega (arith, c.requires.values))

pub are_apart-requires-clause-fits : goal.are_apart-requires-clause-fits
are_apart-requires-clause-fits c =
    rw c.as_ref-view.ensures.axes (omega (arith, c.requires.values, c.size-count.ensures.small))

pub are_apart-requires-clause-inside : goal.are_apart-requires-clause-inside
are_apart-requires-clause-inside c x q row value =
    let first = c.deref.ensures.value in
    let second = c.deref-else-count-eq0.ensures.value in
    let below =
    sum_of_tables-below c.in_ok-starts.starts.items c.in_ok-starts.offsets.items c.args.axes.now
    c.args.dims.now c.in_ok-starts.ensures.tables x q (rw first at row) (rw second at value) in
    rw (first, second, c.as_ref-view.ensures.axes) (omega (arith, below, c.requires.values))

pub new-requires-clause-inside : goal.new-requires-clause-inside
new-requires-clause-inside c x q row value =
    omega (
      arith,
      c.requires.values,
      c.in_ok-values.ensures.count,
      sum_of_tables-below c.in_ok-starts.starts.items c.in_ok-starts.offsets.items
          c.args.axes.now c.args.dims.now c.in_ok-starts.ensures.tables x q row value,
    )

pub returns-then-count-eq0 : goal.returns-then-count-eq0
returns-then-count-eq0 c =
    let starts = c.in_ok-starts.starts.items in
    let offsets = c.in_ok-starts.offsets.items in
    let of : ℕ → ℤ = value_in (cow_slice_items c.in_ok-values.values) in
    let value : ℕ → ℕ → ℤ = λ x q. of (slice_index starts x + slice_index offsets q) in
    operand-made _ _ _ _ _ _ _ _ _ c.new.ensures.count c.new.ensures.len c.new.ensures.each
    (operand-same (length starts) (length offsets) value of (viewed_value c.args.viewed)
    c.args.dims.now c.args.axes.now c.requires.axes
    (λ p below. c.in_ok-values.ensures.each p (omega (arith, c.requires.values)))
    (tables-operand starts offsets c.args.axes.now c.args.dims.now value of
    c.in_ok-starts.ensures.tables (λ x q row value. refl)))

pub map_through-requires-clause-within : goal.map_through-requires-clause-within
map_through-requires-clause-within c =
    let some : 0 < size_of c.args.dims.now = omega arith in
    λ k below.
    rw c.as_ref-view.ensures.axes (omega (
      arith,
      c.requires.values,
      starts-below c.in_ok-starts.starts.items c.in_ok-starts.offsets.items c.args.axes.now
          c.args.dims.now c.in_ok-starts.ensures.tables some k below,
    ))

pub map_through-requires-2-clause-within : goal.map_through-requires-2-clause-within
map_through-requires-2-clause-within c =
    let some : 0 < size_of c.args.dims.now = omega arith in
    λ k below.
    rw c.as_ref-view.ensures.axes (omega (
      arith,
      c.requires.values,
      offsets-below c.in_ok-starts.starts.items c.in_ok-starts.offsets.items c.args.axes.now
          c.args.dims.now c.in_ok-starts.ensures.tables some k below,
    ))

pub map_through-requires-2-clause-fits : goal.map_through-requires-2-clause-fits
map_through-requires-2-clause-fits c =
    λ p below.
    let within = rw c.as_ref-view.ensures.axes at below in
    rw c.as_ref-view.ensures.axes (omega (
      arith,
      reached-none c.args.viewed.view.start c.args.viewed.view.axes.items p,
      c.args.viewed.inside p within,
      c.args.viewed.few,
    ))

pub new-requires-2-clause-inside : goal.new-requires-2-clause-inside
new-requires-2-clause-inside c =
    let starts = c.in_ok-starts.starts.items in
    let offsets = c.in_ok-starts.offsets.items in
    let start = c.args.viewed.view.start in
    let view = c.args.viewed.view.axes.items in
    let apart : AreAllApart view 1 starts offsets =
    rw (c.as_ref-view.ensures.axes, c.deref.ensures.value, c.deref-else-count-eq0.ensures.value) at
    (c.if-not-are_apart.ensures refl) in
    let first =
    IsMapped-along _ start _ view starts c.map_through.new.places.items c.as_ref-view.ensures.start
    c.as_ref-view.ensures.axes
    c.map_through.ensures.len c.map_through.ensures.each in
    let second =
    IsMapped-along 0 0 _ view offsets c.map_through-2.new.places.items refl c.as_ref-view.ensures.axes
    c.map_through-2.ensures.len c.map_through-2.ensures.each in
    mapped-inside (cow_slice_items c.args.viewed.list) start view starts offsets
    c.map_through.new.places.items c.map_through-2.new.places.items c.args.axes.now c.args.dims.now
    c.in_ok-starts.ensures.tables apart first second c.requires.values c.args.viewed.inside

pub returns : goal.returns
returns c =
    let starts = c.in_ok-starts.starts.items in
    let offsets = c.in_ok-starts.offsets.items in
    let start = c.args.viewed.view.start in
    let view = c.args.viewed.view.axes.items in
    let apart : AreAllApart view 1 starts offsets =
    rw (c.as_ref-view.ensures.axes, c.deref.ensures.value, c.deref-else-count-eq0.ensures.value) at
    (c.if-not-are_apart.ensures refl) in
    let first =
    IsMapped-along _ start _ view starts c.map_through.new.places.items c.as_ref-view.ensures.start
    c.as_ref-view.ensures.axes
    c.map_through.ensures.len c.map_through.ensures.each in
    let second =
    IsMapped-along 0 0 _ view offsets c.map_through-2.new.places.items refl c.as_ref-view.ensures.axes
    c.map_through-2.ensures.len c.map_through-2.ensures.each in
    operand-made _ _ _ _ _ _ _ _ _ c.new-2.ensures.count c.new-2.ensures.len
    c.new-2.ensures.each
    (mapped-operand (cow_slice_items c.args.viewed.list) start view starts offsets
    c.map_through.new.places.items c.map_through-2.new.places.items c.args.axes.now c.args.dims.now
    c.in_ok-starts.ensures.tables apart first second)
