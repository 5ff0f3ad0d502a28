use Rattle.event_count.proofs.Following.{stacks_are_owed}
use Rattle.event_count.proofs.laws.taken_stacks_are_owed.Goals as goal

pub returns : goal.returns
returns c = stacks_are_owed
