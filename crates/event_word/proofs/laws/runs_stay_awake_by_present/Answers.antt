use Rattle.event_word.proofs.Parking.{stay_awake_by_present}
use Rattle.event_word.proofs.laws.runs_stay_awake_by_present.Goals as goal

pub returns : goal.returns
returns c = stay_awake_by_present
