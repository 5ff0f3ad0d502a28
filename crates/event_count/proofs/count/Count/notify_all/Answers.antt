-- The exchange found another word.
use Rattle.event_count.proofs.Retrying.{lost_all}
use Rattle.event_count.proofs.count.Count.notify_all.Goals as goal

pub loop-preserved : goal.loop-preserved
loop-preserved g c = record {
  can = tt;
  finite = tt;
  of = c.in-Contended.ensures.of;
  later = lost_all _ _ _ _ _ _ c.loop.invariant.later c.load_state-word.ensures.card
      c.in-Contended.ensures.answer;
}
