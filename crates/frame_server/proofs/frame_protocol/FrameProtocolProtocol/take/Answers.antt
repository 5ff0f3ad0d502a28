use Rattle.message_server.proofs.Streams.{OnErr-any}
use Rattle.message_server.proofs.Takings.{at_some}
use Rattle.frame_server.proofs.Serving.{TakesMessage-frame, EndsBy-frame, StopsIn-frame}
use Rattle.frame_server.proofs.frame_protocol.FrameProtocolProtocol.take.Goals as goal

pub returns-in-Some-clause-next : goal.returns-in-Some-clause-next
returns-in-Some-clause-next g c =
    TakesMessage-frame _ _ _ _ _ _ c.in-Some.frame (at_some _ c.in-Some.frame _ _ c.in-Some.is c.in_ok-frame.ensures.frame)

pub returns-in-None-clause-next : goal.returns-in-None-clause-next
returns-in-None-clause-next g c =
    let ends = rw c.in-None.is at c.in_ok-frame.ensures.frame in
    EndsBy-frame _ _ _ _ _ _ ends

pub returns-in_err-frame-clause-stops : goal.returns-in_err-frame-clause-stops
returns-in_err-frame-clause-stops g c =
    OnErr-any c.from_residual.result (StopsIn-frame _ _ _ _ _ c.in_err-frame.ensures.stops)
