use Rattle.event_count.proofs.RowSteps.Keeping.{row_steps_add}
use Rattle.event_count.proofs.laws.row_steps_add_their_events.Goals as goal

pub returns : goal.returns
returns c = row_steps_add
