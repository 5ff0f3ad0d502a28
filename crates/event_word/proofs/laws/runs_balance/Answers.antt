use Rattle.event_word.proofs.Balancing.{balance}
use Rattle.event_word.proofs.laws.runs_balance.Goals as goal

pub returns : goal.returns
returns c = balance
