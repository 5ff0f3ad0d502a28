use Rattle.tensor_runner.proofs.Unlimited.{plain_without_limits}
use Rattle.tensor_runner.proofs.laws.no_limits_change_no_line.Goals as goal

pub returns : goal.returns
returns c = plain_without_limits
