use Rattle.frame_server.proofs.answer.requested.Goals as goal

pub returns : goal.returns
returns c = rw (c.as_slice.ensures.value, c.as_slice-2.ensures.value) at c.read_frame.ensures.request
