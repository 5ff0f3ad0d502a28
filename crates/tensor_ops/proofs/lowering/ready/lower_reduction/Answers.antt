use Rattle.std.proofs.Common.{◌-◌, refl, arith}
use Rattle.tensor_terms.specs.Reduction.{reduced}
use Rattle.tensor_ops.specs.private.Reduced.{places_of_result, reduction_at}
use Rattle.tensor_ops.specs.private.Lowering.{meaning_at}
use Rattle.tensor_ops.specs.declared.lowered.Lowered.TheVariants.{Stored}
use Rattle.tensor_ops.proofs.Worked.{values-worked, gives-worked}
use Rattle.tensor_ops.proofs.lowering.ready.lower_reduction.Goals as goal

pub returns-clause-lowered : goal.returns-clause-lowered
returns-clause-lowered c =
    let made = c.in_ok-reduction.reduction in
    let rs = c.in_ok-reduction.dims in
    let values = c.in_ok-values.field-0 in
    gives-worked (Stored values) values.items rs
    (reduced c.args.reducer c.args.axes.now c.args.operand.dims
    (meaning_at c.args.operand.lowered c.args.operand.dims))
    (record { count = refl; each = λ p. refl }) tt
    (values-worked (reduction_at made) values.items (places_of_result made)
    (c.size-count.result - 0) rs (reduced c.args.reducer c.args.axes.now c.args.operand.dims
    (meaning_at c.args.operand.lowered c.args.operand.dims))
    c.in_ok-reduction.ensures.values c.in_ok-values.ensures (omega (
      arith,
      c.size-count.ensures.value,
    )))
