use Rattle.event_word.proofs.Histories.{lawful_history}
use Rattle.event_word.proofs.laws.runs_are_lawful.Goals as goal

pub returns : goal.returns
returns c = lawful_history
