use Rattle.frame_server.proofs.Answering.{IsFrameUnder-own}
use Rattle.frame_server.proofs.answer.answered_whole.Goals as goal

pub returns-in-Ok : goal.returns-in-Ok
returns-in-Ok g c = λ bytes same short.
    IsFrameUnder-own c.args.allowance.now.limits c.args.allowance.now.logs bytes c.args.frame c.in-Ok.request c.own_frame.result same c.in-Ok.ensures c.own_frame.ensures.frame
    c.own_frame.ensures.steps short
