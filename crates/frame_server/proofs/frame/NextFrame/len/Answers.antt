use Rattle.std.proofs.Common.{◌∙◌, sym, arith}
use Rattle.frame_server.proofs.Answering.{length-kept}
use Rattle.frame_server.proofs.frame.NextFrame.len.Goals as goal

pub returns-in-Whole : goal.returns-in-Whole
returns-in-Whole c = λ bytes whole kept.
    let is = rw c.in-Whole.is at kept in
    omega (arith, length-kept bytes c.in-Whole.frame whole is.0, c.len-header.ensures, c.len-values.ensures)

pub returns-in-Passed : goal.returns-in-Passed
returns-in-Passed c = λ bytes whole kept.
    let is = rw c.in-Passed.is at kept in
    is.1 ∙ sym whole
