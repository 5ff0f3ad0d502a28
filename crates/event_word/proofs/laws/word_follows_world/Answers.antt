use Rattle.event_word.proofs.Following.{word_follows}
use Rattle.event_word.proofs.laws.word_follows_world.Goals as goal

pub returns : goal.returns
returns c = word_follows
