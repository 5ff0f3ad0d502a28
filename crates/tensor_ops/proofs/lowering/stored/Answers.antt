use Rattle.std.proofs.Common.{◌-◌, refl, arith}
use Rattle.tensor_ops.proofs.Lowerings.{gives-after, gives-itself, gives-list}
use Rattle.tensor_ops.proofs.lowering.stored.Goals as goal

pub returns-then-count-reads : goal.returns-then-count-reads
returns-then-count-reads c = gives-itself c.args.lowered c.args.dims.now c.requires.sound c.requires.count

pub returns : goal.returns
returns c =
    gives-after _ c.in_ok-sunk.sunk c.args.dims.now _ c.in_ok-sunk.ensures
    (gives-list _ c.in_ok-sunk.sunk c.in_ok-values.field-0.items c.args.dims.now (c.size-count.result - 0)
    (record { count = refl; each = λ p. refl }) tt c.in_ok-values.ensures (omega (arith, c.size-count.ensures.value)))
