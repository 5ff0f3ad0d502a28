use Rattle.event_count.proofs.PreSeats.{pre_seats}
use Rattle.event_count.proofs.laws.pre_seats_wait.Goals as goal

pub returns : goal.returns
returns c = pre_seats
