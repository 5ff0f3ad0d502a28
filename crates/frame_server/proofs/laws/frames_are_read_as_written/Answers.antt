use Rattle.frame_server.proofs.Written.{read_as_written}
use Rattle.frame_server.proofs.laws.frames_are_read_as_written.Goals as goal

pub returns : goal.returns
returns c = read_as_written
