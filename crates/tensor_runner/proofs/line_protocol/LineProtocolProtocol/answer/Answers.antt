use Rattle.std.proofs.Common.{Bool, subst, ◌∙◌}
use Rattle.tensor_runner.specs.Line.{IsLineFrom}
use Rattle.tensor_runner.specs.declared.limits.Limits.{Limits}
use Rattle.tensor_runner.proofs.Entries.{IsEntry-from}
use Rattle.tensor_runner.proofs.Refused.{IsLineWithin-from}
use Rattle.tensor_runner.proofs.line_protocol.LineProtocolProtocol.answer.Goals as goal

pub answer-line-requires-sync-RT : goal.answer-line-requires-sync-RT
answer-line-requires-sync-RT g c = λ κs within. c.requires

pub returns-clause-answer : goal.returns-clause-answer
returns-clause-answer g c = λ text is.
    let logs = c.begin-allowance.result.logs in
    IsLineWithin-from c.args.self.now.service.limits logs text c.answer-line.result
    (subst (λ (l : Limits). IsLineFrom l logs text c.answer-line.result) c.begin-allowance.ensures.limits (c.answer-line.ensures text is))

pub returns-clause-note : goal.returns-clause-note
returns-clause-note g c = λ text is.
    let limits = c.args.self.now.service.limits in
    let logs = g.J.Journal.logs c.args.self.now.service.journal in
    IsEntry-from limits logs text c.args.kept c.answer-line.result c.len-length.result c.entry_of-entry.result is c.len-length.ensures
    c.entry_of-entry.ensures
    (subst (λ (b : Bool). IsLineFrom limits b text c.answer-line.result)
    (c.begin-allowance.ensures.logs ∙ c.notes_steps-logs.ensures ∙ c.begin.ensures.logs)
    (subst (λ (l : Limits). IsLineFrom l c.begin-allowance.result.logs text c.answer-line.result) c.begin-allowance.ensures.limits
    (c.answer-line.ensures text is)))
