use Rattle.event_count.proofs.Following.{counts_follow}
use Rattle.event_count.proofs.laws.counts_follow.Goals as goal

pub returns : goal.returns
returns c = counts_follow
