-- Each unpark leaves to be done what it did not do, until none is possible.
use Rattle.std.proofs.Common.{sym, ◌∙◌}
use Rattle.event_count.proofs.CountWorlds.{settled-step, settled-none, length-owed-step}
use Rattle.event_count.proofs.stepped_world.SteppedWorld.unpark_all.Goals as goal

pub loop-preserved : goal.loop-preserved
loop-preserved g c = record {
  world = settled-step c.loop.self.world c.args.actor c.step.new.self.world
      c.loop-test.ensures.step
      ∙ c.loop.invariant.world;
  sizes = c.loop-test.ensures.sizes ∙ c.loop.invariant.sizes;
}

pub loop-smaller : goal.loop-smaller
loop-smaller g c =
    length-owed-step c.loop.self.world c.args.actor c.step.new.self.world
    c.loop-test.ensures.step

pub returns-clause-world : goal.returns-clause-world
returns-clause-world g c = let none = c.loop-test.ensures.step in
    none.1 ∙ (sym (settled-none c.loop.self.world c.args.actor none.0) ∙ c.loop.invariant.world)
