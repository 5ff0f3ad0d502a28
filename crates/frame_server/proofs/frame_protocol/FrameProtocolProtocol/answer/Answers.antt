use Rattle.std.proofs.Common.{Bool, subst, ◌∙◌}
use Rattle.tensor_runner.specs.declared.limits.Limits.{Limits}
use Rattle.frame_server.specs.private.Answering.{IsFrameFrom}
use Rattle.frame_server.proofs.Answering.{IsFrameWithin-from}
use Rattle.frame_server.proofs.Entries.{IsEntry-from}
use Rattle.frame_server.proofs.frame_protocol.FrameProtocolProtocol.answer.Goals as goal

pub answer-frame-requires-sync-RT : goal.answer-frame-requires-sync-RT
answer-frame-requires-sync-RT g c = λ κs within. c.requires

pub returns-clause-answer : goal.returns-clause-answer
returns-clause-answer g c = λ bytes is.
    let logs = c.begin-allowance.result.logs in
    IsFrameWithin-from c.args.self.now.service.limits logs bytes c.answer-frame.result
    (subst (λ (l : Limits). IsFrameFrom l logs bytes c.answer-frame.result) c.begin-allowance.ensures.limits (c.answer-frame.ensures bytes is.0 is.1))

pub returns-clause-note : goal.returns-clause-note
returns-clause-note g c = λ bytes is.
    let limits = c.args.self.now.service.limits in
    let logs = g.J.Journal.logs c.args.self.now.service.journal in
    IsEntry-from limits logs bytes c.answer-frame.result c.len-length.result c.entry_of-entry.result (c.len-length.ensures bytes is.0 is.1)
    c.entry_of-entry.ensures
    (subst (λ (b : Bool). IsFrameFrom limits b bytes c.answer-frame.result)
    (c.begin-allowance.ensures.logs ∙ c.notes_steps-logs.ensures ∙ c.begin.ensures.logs)
    (subst (λ (l : Limits). IsFrameFrom l c.begin-allowance.result.logs bytes c.answer-frame.result) c.begin-allowance.ensures.limits
    (c.answer-frame.ensures bytes is.0 is.1)))
