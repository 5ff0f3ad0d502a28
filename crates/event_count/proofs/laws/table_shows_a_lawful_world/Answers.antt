use Rattle.event_count.proofs.Closing.{shows_lawful}
use Rattle.event_count.proofs.laws.table_shows_a_lawful_world.Goals as goal

pub returns : goal.returns
returns c = shows_lawful
