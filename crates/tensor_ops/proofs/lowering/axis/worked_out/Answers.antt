use Rattle.std.proofs.Common.{◌-◌, refl, ap, sym, arith}
use Rattle.tensor_ops.specs.declared.lowered.Lowered.TheVariants.{Stored}
use Rattle.tensor_ops.specs.private.LineResults.{places_along, value_along}
use Rattle.tensor_ops.specs.private.Lowering.{along_at}
use Rattle.tensor_ops.proofs.Worked.{values-worked, gives-worked}
use Rattle.tensor_shape.proofs.Places.{place-index_of}
use Rattle.tensor_ops.proofs.lowering.axis.worked_out.Goals as goal

pub returns-clause-lowered : goal.returns-clause-lowered
returns-clause-lowered c =
    let made = c.args.along in
    let ds = c.args.dims in
    let values = c.in_ok-values.field-0 in
    gives-worked (Stored values) values.items ds (along_at made ds)
    (record { count = refl; each = λ p. refl }) tt
    (values-worked (value_along made) values.items (places_along made)
    (c.size-count.result - 0) ds (along_at made ds)
    (record {
      whole = c.requires;
      each = λ p below. ap (value_along made) (sym (place-index_of ds p below));
    })
    c.in_ok-values.ensures (omega (arith, c.size-count.ensures.value)))
