use Rattle.std.proofs.Common.{◌≡◌, ◌-◌, refl, arith}
use Rattle.tensor_shape.specs.Index.{size_of}
use Rattle.tensor_ops.specs.private.Meaning.{meaning, count_of}
use Rattle.tensor_ops.specs.private.Lowering.{meaning_at}
use Rattle.tensor_ops.specs.declared.lowered.Lowered.TheVariants.{Borrowed, Stored}
use Rattle.tensor_ops.proofs.Worked.{values-own, values-list, values-worked}
use Rattle.tensor_ops.proofs.lowered.Lowered.worked_out.Goals as goal

pub returns-in-Borrowed : goal.returns-in-Borrowed
returns-in-Borrowed c =
    let count : count_of (Borrowed c.in-Borrowed.values)
    ≡ size_of c.args.dims.now = rw c.in-Borrowed.is at c.requires.count in
    rw c.in-Borrowed.is
    (values-list (Borrowed c.in-Borrowed.values) c.in-Borrowed.values.now c.args.dims.now (record {
      count =
          refl;
      each = λ p. refl;
    }) count)

pub returns-in-Stored : goal.returns-in-Stored
returns-in-Stored c =
    let count : count_of (Stored c.in-Stored.values)
    ≡ size_of c.args.dims.now = rw c.in-Stored.is at c.requires.count in
    rw c.in-Stored.is
    (values-list (Stored c.in-Stored.values) c.in-Stored.values.items c.args.dims.now (record {
      count =
          refl;
      each = λ p. refl;
    }) count)

pub returns-in_ok-values-in_default : goal.returns-in_ok-values-in_default
returns-in_ok-values-in_default c =
    values-worked (meaning c.args.self) c.in_ok-values-in_default.values.items
    (count_of c.args.self) (c.size.result - 0) c.args.dims.now
    (meaning_at c.args.self c.args.dims.now)
    (values-own c.args.self c.args.dims.now c.requires.count)
    c.in_ok-values-in_default.ensures (omega (arith, c.size.ensures.value))
