use Rattle.frame_server.proofs.Answering.{IsAnswerTo-passed}
use Rattle.frame_server.proofs.answer.answered.Goals as goal

pub returns-in-Whole : goal.returns-in-Whole
returns-in-Whole g c = λ bytes whole kept.
    let is = rw c.in-Whole.is at kept in
    c.answered_whole.ensures bytes is.0 is.1

pub returns-in-Passed : goal.returns-in-Passed
returns-in-Passed g c = λ bytes whole kept.
    let is = rw c.in-Passed.is at kept in
    IsAnswerTo-passed bytes c.in-Passed.fault whole is.0
