use Rattle.message_server.proofs.Streams.{OnOk-follows}
use Rattle.tensor_runner.proofs.Serving.{OnOk-lines, CutsLinesShort-some, HasFailed-line, NotesLines-all, NotesSomeLines-some}
use Rattle.tensor_runner.proofs.server.answer_lines.Goals as goal

pub returns-clause-answered : goal.returns-clause-answered
returns-clause-answered g c = λ text held knows holds.
    OnOk-lines c.args.service.limits c.answer_messages-ended.result text held _ (c.answer_messages-ended.ensures.answered text held knows holds)

pub returns-clause-cut_short : goal.returns-clause-cut_short
returns-clause-cut_short g c = λ text held knows holds failed.
    CutsLinesShort-some c.args.service.limits text held _ (c.answer_messages-ended.ensures.cut_short text held knows holds failed)

pub returns-clause-noted : goal.returns-clause-noted
returns-clause-noted g c = λ text held knows holds.
    OnOk-follows c.answer_messages-ended.result _ _ (NotesLines-all c.args.service.limits (g.J.Journal.logs c.args.service.journal) text held _ _ _)
    (c.answer_messages-ended.ensures.noted text held knows holds)

pub returns-clause-noted_some : goal.returns-clause-noted_some
returns-clause-noted_some g c = λ text held knows holds failed.
    NotesSomeLines-some c.args.service.limits (g.J.Journal.logs c.args.service.journal) text held _ _ _
    (c.answer_messages-ended.ensures.noted_some text held knows holds failed)

pub returns-clause-read_fault : goal.returns-clause-read_fault
returns-clause-read_fault g c = λ failed.
    let stopped = c.answer_messages-ended.ensures.read_fault failed in
    (HasFailed-line _ _ _ _ stopped.0, stopped.1)
