use Rattle.event_word.proofs.Parking.{stay_awake}
use Rattle.event_word.proofs.laws.runs_stay_awake.Goals as goal

pub returns : goal.returns
returns c = stay_awake
