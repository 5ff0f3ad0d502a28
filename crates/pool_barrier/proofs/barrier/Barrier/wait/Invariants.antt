use Rattle.pool_barrier.specs.Shares.{IsWaiterOf}
use Rattle.pool_barrier.proofs.barrier.Barrier.wait.Given as goal

abbrev pub invariant-loop : goal.invariant-loop
invariant-loop g l = record {
  can : (goal.iterator-loop g).can_next l.iterator';
  finite : (goal.iterator-loop g).is_finite l.iterator';
  of : IsWaiterOf l.self l.waiter;
}
