use Rattle.pool_barrier.proofs.Keeps.{All-notices}
use Rattle.pool_barrier.proofs.laws.no_notice_is_left.Goals as goal

pub returns : goal.returns
returns c = All-notices
