use Rattle.event_word.proofs.Counts.{SameSizes-step}
use Rattle.event_word.proofs.world.World.step.Goals as goal

pub returns-clause-sizes : goal.returns-clause-sizes
returns-clause-sizes g c = SameSizes-step _ _ _ _ c.take_step.ensures
