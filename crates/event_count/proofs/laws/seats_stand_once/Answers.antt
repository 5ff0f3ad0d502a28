use Rattle.event_count.proofs.Following.{stand_once}
use Rattle.event_count.proofs.laws.seats_stand_once.Goals as goal

pub returns : goal.returns
returns c = stand_once
