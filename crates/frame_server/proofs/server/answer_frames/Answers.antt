use Rattle.message_server.proofs.Streams.{OnOk-follows}
use Rattle.frame_server.proofs.Serving.{OnOk-frames, CutsFramesShort-some, StopsReading-frame, NotesFrames-all, NotesSomeFrames-some}
use Rattle.frame_server.proofs.server.answer_frames.Goals as goal

pub returns-clause-answered : goal.returns-clause-answered
returns-clause-answered g c = λ stream held knows holds.
    OnOk-frames c.args.service.limits c.answer_messages-ended.result stream held _ (c.answer_messages-ended.ensures.answered stream held knows holds)

pub returns-clause-cut_short : goal.returns-clause-cut_short
returns-clause-cut_short g c = λ stream held knows holds failed.
    CutsFramesShort-some c.args.service.limits stream held _ (c.answer_messages-ended.ensures.cut_short stream held knows holds failed)

pub returns-clause-noted : goal.returns-clause-noted
returns-clause-noted g c = λ stream held knows holds.
    OnOk-follows c.answer_messages-ended.result _ _ (NotesFrames-all c.args.service.limits (g.J.Journal.logs c.args.service.journal) stream held _ _ _)
    (c.answer_messages-ended.ensures.noted stream held knows holds)

pub returns-clause-noted_some : goal.returns-clause-noted_some
returns-clause-noted_some g c = λ stream held knows holds failed.
    NotesSomeFrames-some c.args.service.limits (g.J.Journal.logs c.args.service.journal) stream held _ _ _
    (c.answer_messages-ended.ensures.noted_some stream held knows holds failed)

pub returns-clause-read_fault : goal.returns-clause-read_fault
returns-clause-read_fault g c = λ failed.
    let stopped = c.answer_messages-ended.ensures.read_fault failed in
    (StopsReading-frame _ _ _ _ stopped.0, stopped.1)
