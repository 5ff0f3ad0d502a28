use Rattle.std.proofs.Common.{◌≤◌, take}
use Rattle.event_word.specs.Play.{Plays, SameSizes}
use Rattle.event_word.proofs.world.World.play.Given as goal

abbrev pub invariant-loop-event : goal.invariant-loop-event
invariant-loop-event g l =
    Plays l.initial.self (take l.event-index l.events) l.taken l.self × (l.taken ≤ l.event-index)
    × SameSizes l.initial.self l.self
