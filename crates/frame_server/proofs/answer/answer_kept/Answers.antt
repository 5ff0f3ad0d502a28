use Rattle.std.proofs.Common.{inl, inr, refl}
use Rattle.expr_reader.specs.declared.fault.Fault.TheVariants.{NoMemory}
use Rattle.frame_server.proofs.Answering.{short-fault, IsFrameUnder-fault}
use Rattle.frame_server.proofs.answer.answer_kept.Goals as goal

pub returns-in-Ok : goal.returns-in-Ok
returns-in-Ok g c = λ bytes whole kept. c.in-Ok.ensures bytes whole kept

pub returns-in-Err : goal.returns-in-Err
returns-in-Err g c = λ bytes whole kept. elim c.refusal.ensures.fault [
  | inl own ↦ IsFrameUnder-fault c.args.allowance.now.limits c.args.allowance.now.logs bytes c.in-Err.fault c.refusal.result (c.in-Err.ensures bytes whole kept) own c.refusal.ensures.steps
  | inr memory ↦
      IsFrameUnder-fault c.args.allowance.now.limits c.args.allowance.now.logs bytes NoMemory c.refusal.result
      (inr (refl, short-fault bytes c.in-Err.fault whole (c.in-Err.ensures bytes whole kept) memory.1)) memory.0 c.refusal.ensures.steps
]
