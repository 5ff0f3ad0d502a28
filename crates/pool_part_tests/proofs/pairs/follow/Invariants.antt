-- The waiter has entered between two turns.
use Rattle.std.proofs.Common.{◌≡◌, ◌<◌, []}
use Rattle.event_word.specs.declared.phase.Phase.TheVariants.{Running, Pre}
use Rattle.pool_part_tests.proofs.pairs.follow.Given as goal

abbrev pub invariant-loop-turn : goal.invariant-loop-turn
invariant-loop-turn g l = record {
  ours : g.P.WaitPoint.point_of l.waiter ≡ g.P.WaitPoint.identity_of l.here;
  waiter : g.P.WaitPoint.number_of l.waiter < g.P.WaitPoint.waiter_count l.here;
  pre : g.P.WaitPoint.phase_of l.waiter ≡ Pre;
  owes_none : g.P.WaitPoint.owing_of l.waiter ≡ [];
  theirs : g.P.WaitPoint.point_of l.notifier ≡ g.P.WaitPoint.identity_of l.there;
  notifies : g.P.WaitPoint.phase_of l.notifier ≡ Running;
  notifier_owes_none : g.P.WaitPoint.owing_of l.notifier ≡ [];
}
