use Rattle.std.proofs.Common.{◌≡◌, Ok, length, refl, sym, ◌∙◌}
use Rattle.std.specs.Cow.{cow_slice_items}
use Rattle.tensor_ops.specs.private.LineResults.{places_along, value_along}
use Rattle.tensor_ops.specs.private.Lowering.{meaning_at}
use Rattle.tensor_ops.proofs.AlongValues.{along-count, values-of-along}
use Rattle.tensor_terms.specs.Along.{along_dims}
use Rattle.tensor_terms.proofs.AlongTerms.{along-known}
use Rattle.tensor_values.specs.Values.{value_in}
use Rattle.tensor_ops.proofs.lowering.axis.along_of.Goals as goal

pub lines_along-lines-requires : goal.lines_along-lines-requires
lines_along-lines-requires c =
    (along-known c.args.operation c.args.axis c.args.operand.dims c.requires.dims).inside

pub invariant_of-along : goal.invariant_of-along
invariant_of-along c =
    let items = cow_slice_items c.in_ok-values.values in
    let dims : along_dims c.args.operation c.args.axis c.args.operand.dims ≡ Ok c.unwrap-dims.result =
    sym c.along_dims.ensures ∙ c.unwrap-dims.ensures in
    record {
      whole = along-count c.args.axis c.args.operand.dims c.unwrap-dims.result c.lines_along-lines.result
          (length items) (value_in items) (meaning_at c.args.operand.lowered c.args.operand.dims)
          c.lines_along-lines.ensures.along c.in_ok-values.ensures c.args.operation dims;
    }

pub returns-clause-values : goal.returns-clause-values
returns-clause-values c =
    let items = cow_slice_items c.in_ok-values.values in
    let dims : along_dims c.args.operation c.args.axis c.args.operand.dims ≡ Ok c.unwrap-dims.result =
    sym c.along_dims.ensures ∙ c.unwrap-dims.ensures in
    values-of-along c.args.axis c.args.operand.dims c.unwrap-dims.result c.lines_along-lines.result
    (length items) (value_in items) (meaning_at c.args.operand.lowered c.args.operand.dims)
    c.lines_along-lines.ensures.along c.in_ok-values.ensures c.args.operation dims
    _ _ refl (λ p below. refl)
