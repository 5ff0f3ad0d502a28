use Rattle.event_count.proofs.Retrying.{later_then, rests_cancel}
use Rattle.event_count.proofs.count.Count.cancel.Goals as goal

pub loop-preserved : goal.loop-preserved
loop-preserved g c = record {
  can = tt;
  finite = tt;
  of = c.cancel_once.ensures.of;
  later = later_then _ _ _ c.loop.invariant.later
      (c.cancel_once.ensures.contended c.if-cancel_once.false);
}

pub returns-then-cancel_once-clause-answer : goal.returns-then-cancel_once-clause-answer
returns-then-cancel_once-clause-answer g c =
    rests_cancel g.K.Kind.rowed _ _ _ c.loop.invariant.later
    (c.cancel_once.ensures.done c.if-cancel_once.true)
