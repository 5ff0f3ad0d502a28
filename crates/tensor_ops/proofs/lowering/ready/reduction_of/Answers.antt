use Rattle.std.proofs.Common.{length, sym, ◌∙◌}
use Rattle.std.specs.Cow.{cow_slice_items}
use Rattle.tensor_values.specs.Values.{value_in}
use Rattle.tensor_ops.specs.private.Lowering.{meaning_at}
use Rattle.tensor_ops.specs.private.Reduced.{places_of_result, reduction_at}
use Rattle.tensor_ops.proofs.Worked.{values-reduced}
use Rattle.tensor_ops.proofs.lowering.ready.reduction_of.Goals as goal

pub returns : goal.returns
returns c =
    let made = c.in_ok-reduction.reduction in
    let items = cow_slice_items c.in_ok-values.values in
    record {
      dims = sym c.reduced_dims.ensures ∙ c.unwrap-dims.ensures;
      values = values-reduced c.args.reducer c.args.axes.now c.args.operand.dims c.unwrap-dims.result
          (length items) (places_of_result made)
          (value_in items) (reduction_at made)
          (meaning_at c.args.operand.lowered c.args.operand.dims) (sym c.reduced_dims.ensures ∙ c.unwrap-dims.ensures)
          c.in_ok-values.ensures c.in_ok-reduction.ensures.size c.in_ok-reduction.ensures.each;
    }
