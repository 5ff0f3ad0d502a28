use Rattle.std.proofs.Common.{◌+◌, take, subst, arith}
use Rattle.event_word.specs.Play.{Plays}
use Rattle.event_word.proofs.Lists.{one_if-le-one}
use Rattle.event_word.proofs.Counts.{SameSizes-trans}
use Rattle.event_word.proofs.Playing.{Plays-more}
use Rattle.event_word.proofs.world.World.play.Goals as goal

pub loop-event-preserved : goal.loop-event-preserved
loop-event-preserved g c =
    let more =
    Plays-more _ _ _ _ _ _ _ _ c.loop-event-test.true c.loop-event.invariant.0
    c.step.ensures.step in (
      subst (λ n. Plays c.args.self.now (take (c.loop-event.event-index + 1) c.args.events.now) n
          c.step.new.self) (omega arith) more,
      omega (arith, one_if-le-one c.step.result, c.loop-event.invariant.1),
      SameSizes-trans _ _ _ c.loop-event.invariant.2 c.step.ensures.sizes,
    )
