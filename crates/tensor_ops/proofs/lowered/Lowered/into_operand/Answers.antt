use Rattle.std.proofs.lemmas.Result.{IfOk-weaker}
use Rattle.tensor_ops.specs.private.Operand.{operand_count, operand_at}
use Rattle.tensor_ops.specs.private.Lowering.{meaning_at}
use Rattle.tensor_ops.proofs.Worked.{values-given}
use Rattle.tensor_ops.proofs.lowered.Lowered.into_operand.Goals as goal

pub returns : goal.returns
returns c =
    IfOk-weaker c.operand.result _ _
    (λ o values. values-given (operand_count o) (operand_at o) c.in_ok-sunk.sunk
    c.args.dims.now (meaning_at c.args.self c.args.dims.now) values c.in_ok-sunk.ensures)
    c.operand.ensures
