use Rattle.std.proofs.Common.{ℕ, ℤ, ◌+◌, slice_index, refl, arith}
use Rattle.std.specs.Cow.{cow_slice_items}
use Rattle.tensor_values.specs.Values.{value_in}
use Rattle.tensor_ops.proofs.OperandRows.{operand-made, tables-operand}
use Rattle.tensor_views.proofs.OffsetTables.{sum_of_tables-below}
use Rattle.tensor_ops.proofs.operands.rows.rows_in_order.Goals as goal

pub new-requires-clause-inside : goal.new-requires-clause-inside
new-requires-clause-inside c x q row value =
    omega (
      arith,
      c.requires.values,
      sum_of_tables-below c.in_ok-starts.starts.items c.in_ok-starts.offsets.items
          c.args.axes.now c.args.dims.now c.in_ok-starts.ensures.tables x q row value,
    )

pub returns : goal.returns
returns c =
    let starts = c.in_ok-starts.starts.items in
    let offsets = c.in_ok-starts.offsets.items in
    let of : ℕ → ℤ = value_in (cow_slice_items c.args.values) in
    operand-made _ _ _ _ _ _ _ _ _ c.new.ensures.count c.new.ensures.len c.new.ensures.each
    (tables-operand starts offsets c.args.axes.now c.args.dims.now
    (λ x q. of (slice_index starts x + slice_index offsets q)) of
    c.in_ok-starts.ensures.tables (λ x q row value. refl))
