use Rattle.std.proofs.Common.{◌≡◌, Ok, length, refl, sym, ◌∙◌}
use Rattle.std.specs.Cow.{cow_slice_items}
use Rattle.tensor_ops.specs.private.Lowering.{meaning_at}
use Rattle.tensor_ops.proofs.AlongValues.{taken-count, values-of-taken}
use Rattle.tensor_shape.specs.Legal.{widest}
use Rattle.tensor_terms.specs.Along.{taken_dims}
use Rattle.tensor_terms.proofs.AlongTerms.{taken-known}
use Rattle.tensor_values.specs.Values.{value_in}
use Rattle.tensor_ops.proofs.lowering.axis.take_of.Goals as goal

pub lines_along-lines-requires : goal.lines_along-lines-requires
lines_along-lines-requires c =
    (taken-known c.args.axis c.args.first.dims c.args.second.dims c.requires.dims).inside

pub invariant_of-along : goal.invariant_of-along
invariant_of-along c =
    let items = cow_slice_items c.in_ok-values.values in
    let numbers = cow_slice_items c.in_ok-numbers.numbers in
    let dims : taken_dims widest c.args.axis c.args.first.dims c.args.second.dims ≡ Ok c.unwrap-dims.result =
    sym c.taken_dims.ensures ∙ c.unwrap-dims.ensures in
    record {
      whole = taken-count c.args.axis c.args.first.dims c.unwrap-dims.result c.lines_along-lines.result
          (length items) (value_in items) (meaning_at c.args.first.lowered c.args.first.dims)
          c.lines_along-lines.ensures.along c.in_ok-values.ensures
          c.args.second.dims (length numbers) numbers
          (meaning_at c.args.second.lowered c.args.second.dims) c.in_ok-numbers.ensures dims;
    }

pub returns-clause-values : goal.returns-clause-values
returns-clause-values c =
    let items = cow_slice_items c.in_ok-values.values in
    let numbers = cow_slice_items c.in_ok-numbers.numbers in
    let dims : taken_dims widest c.args.axis c.args.first.dims c.args.second.dims ≡ Ok c.unwrap-dims.result =
    sym c.taken_dims.ensures ∙ c.unwrap-dims.ensures in
    values-of-taken c.args.axis c.args.first.dims c.unwrap-dims.result c.lines_along-lines.result
    (length items) (value_in items) (meaning_at c.args.first.lowered c.args.first.dims)
    c.lines_along-lines.ensures.along c.in_ok-values.ensures
    c.args.second.dims (length numbers) numbers
    (meaning_at c.args.second.lowered c.args.second.dims) c.in_ok-numbers.ensures dims
    _ _ refl refl (λ p below. refl)
