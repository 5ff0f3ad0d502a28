use Rattle.event_count.proofs.Adding.{steps_add}
use Rattle.event_count.proofs.laws.steps_add_their_events.Goals as goal

pub returns : goal.returns
returns c = steps_add
