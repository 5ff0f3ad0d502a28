use Rattle.event_count.proofs.Retrying.{later_then, rests_notify}
use Rattle.event_count.proofs.count.Count.notify.Goals as goal

pub loop-preserved : goal.loop-preserved
loop-preserved g c = record {
  can = tt;
  finite = tt;
  of = c.notify_once.ensures.of;
  later = later_then _ _ _ c.loop.invariant.later
      (c.notify_once.ensures.contended c.if-notify_once.false);
}

pub returns-then-notify_once-clause-answer : goal.returns-then-notify_once-clause-answer
returns-then-notify_once-clause-answer g c =
    rests_notify g.K.Kind.rowed _ _ _ c.loop.invariant.later
    (c.notify_once.ensures.done c.if-notify_once.true)
