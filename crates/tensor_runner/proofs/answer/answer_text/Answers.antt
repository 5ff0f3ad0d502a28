use Rattle.std.proofs.Common.{refl, inl, inr}
use Rattle.expr_reader.specs.declared.fault.Fault.TheVariants.{NoMemory}
use Rattle.tensor_runner.proofs.Lines.{short-fault}
use Rattle.tensor_runner.proofs.Refused.{IsLineUnder-fault}
use Rattle.tensor_runner.proofs.answer.answer_text.Goals as goal

pub returns-in-Err : goal.returns-in-Err
returns-in-Err g c = elim c.refusal.ensures.fault [
  | inl own ↦ IsLineUnder-fault c.args.allowance.now.limits c.args.allowance.now.logs c.args.text.items c.in-Err.fault c.refusal.result c.in-Err.ensures own c.refusal.ensures.status
      c.refusal.ensures.steps
  | inr memory ↦
      IsLineUnder-fault c.args.allowance.now.limits c.args.allowance.now.logs c.args.text.items NoMemory c.refusal.result
      (inr (refl, short-fault c.args.text.items c.in-Err.fault c.in-Err.ensures memory.1)) memory.0 c.refusal.ensures.status c.refusal.ensures.steps
]
