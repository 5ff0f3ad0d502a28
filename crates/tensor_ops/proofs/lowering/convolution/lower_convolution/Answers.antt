use Rattle.std.proofs.Common.{◌-◌, refl, arith}
use Rattle.tensor_terms.specs.Convolution.{convolved}
use Rattle.tensor_kernels.specs.Contracting.{contraction_count, contraction_value}
use Rattle.tensor_ops.specs.private.Lowering.{meaning_at}
use Rattle.tensor_ops.specs.declared.lowered.Lowered.TheVariants.{Stored}
use Rattle.tensor_ops.proofs.Worked.{values-worked, gives-worked}
use Rattle.tensor_ops.proofs.lowering.convolution.lower_convolution.Goals as goal

pub returns-clause-lowered : goal.returns-clause-lowered
returns-clause-lowered c =
    let made = c.in_ok-convolution.convolution in
    let rs = c.in_ok-convolution.dims in
    let values = c.in_ok-values.field-0 in
    let f = convolved c.args.axes.now c.args.kernel.dims
    (meaning_at c.args.operand.lowered c.args.operand.dims)
    (meaning_at c.args.kernel.lowered c.args.kernel.dims) in
    gives-worked (Stored values) values.items rs f (record { count = refl; each = λ p. refl }) tt
    (values-worked (contraction_value made) values.items (contraction_count made)
    (c.size-count.result - 0) rs f c.in_ok-convolution.ensures.values c.in_ok-values.ensures
    (omega (arith, c.size-count.ensures.value)))
