use Rattle.frame_server.proofs.Unlimited.{plain_without_limits}
use Rattle.frame_server.proofs.laws.no_limits_change_no_frame.Goals as goal

pub returns : goal.returns
returns c = plain_without_limits
