use Rattle.std.proofs.Common.{refl}
use Rattle.tensor_ops.proofs.Lowerings.{gives-each}
use Rattle.tensor_ops.proofs.lowering.lower_unary.Goals as goal

pub returns-in-Each-clause-lowered : goal.returns-in-Each-clause-lowered
returns-in-Each-clause-lowered c =
    let box = c.in_ok-lowered-in-Each in
    rw c.in-Each.is
    (gives-each c.in-Each.operation c.args.operand.lowered box.lowered.value _ c.args.operand.dims box.ensures.ok
    (λ sound. sound) refl (λ p. refl) c.requires.sound c.requires.count)
