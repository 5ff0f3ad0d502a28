use Rattle.event_word.proofs.Playing.{plays_are_runs}
use Rattle.event_word.proofs.laws.plays_are_runs.Goals as goal

pub returns : goal.returns
returns c = plays_are_runs
