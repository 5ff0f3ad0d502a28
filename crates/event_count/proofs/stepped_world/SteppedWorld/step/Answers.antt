-- A step leads to such a World.
use Rattle.event_count.proofs.CountWorlds.{IsCountWorld-step}
use Rattle.event_count.proofs.stepped_world.SteppedWorld.step.Goals as goal

pub invariant_of-self : goal.invariant_of-self
invariant_of-self g c = record {
  lawful = IsCountWorld-step c.args.self.now.sizes c.args.self.now.world c.args.event
      c.step.result c.step.new.self c.args.self.now.lawful c.step.ensures.step;
}
