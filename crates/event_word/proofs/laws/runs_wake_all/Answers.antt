use Rattle.event_word.proofs.Stopping.{wake_all}
use Rattle.event_word.proofs.laws.runs_wake_all.Goals as goal

pub returns : goal.returns
returns c = wake_all
