use Rattle.std.proofs.Common.{◌-◌, refl, ap, sym, arith}
use Rattle.tensor_kernels.specs.Contracting.{contraction_count, contraction_value}
use Rattle.tensor_shape.proofs.Places.{place-index_of}
use Rattle.tensor_ops.specs.private.Lowering.{contraction_at}
use Rattle.tensor_ops.specs.declared.lowered.Lowered.TheVariants.{Stored}
use Rattle.tensor_ops.proofs.Worked.{values-worked, gives-worked}
use Rattle.tensor_ops.proofs.lowering.ready.worked_out.Goals as goal

pub returns-clause-lowered : goal.returns-clause-lowered
returns-clause-lowered c =
    let made = c.args.contraction in
    let ds = c.args.dims in
    let values = c.in_ok-values.field-0 in
    gives-worked (Stored values) values.items ds (contraction_at made ds)
    (record { count = refl; each = λ p. refl }) tt
    (values-worked (contraction_value made) values.items (contraction_count made)
    (c.size-count.result - 0) ds (contraction_at made ds)
    (record {
      whole = c.requires;
      each = λ p below. ap (contraction_value made) (sym (place-index_of ds p below));
    })
    c.in_ok-values.ensures (omega (arith, c.size-count.ensures.value)))
