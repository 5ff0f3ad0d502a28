use Rattle.event_count.proofs.RowSteps.Present.{rows_awake}
use Rattle.event_count.proofs.laws.rows_stay_awake.Goals as goal

pub returns : goal.returns
returns c = rows_awake
