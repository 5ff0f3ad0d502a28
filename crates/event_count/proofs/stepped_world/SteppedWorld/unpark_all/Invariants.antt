-- What is left to be done is what was to be done.
use Rattle.std.proofs.Common.{◌≡◌, length}
use Rattle.event_word.specs.World.{owed_by}
use Rattle.event_count.specs.LockedCount.{settled}
use Rattle.event_count.proofs.stepped_world.SteppedWorld.unpark_all.Given as goal

abbrev pub invariant-loop : goal.invariant-loop
invariant-loop g l = record {
  world : settled l.self.world l.actor ≡ settled l.initial.self.world l.actor;
  sizes : l.self.sizes ≡ l.initial.self.sizes;
}

abbrev pub decreases-loop : goal.decreases-loop
decreases-loop g l = length (owed_by l.self.world l.actor)
