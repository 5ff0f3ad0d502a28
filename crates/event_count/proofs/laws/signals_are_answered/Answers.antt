use Rattle.event_count.proofs.Closing.{signals_answered}
use Rattle.event_count.proofs.laws.signals_are_answered.Goals as goal

pub returns : goal.returns
returns c = signals_answered
