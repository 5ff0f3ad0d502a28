use Rattle.std.proofs.Common.{◌<◌}
use Rattle.event_count.specs.Seats.{card_of, sizes_of, IsSeatOf, IsIdle}
use Rattle.pool_part_tests.proofs.threads.wait_once.Given as goal

abbrev pub invariant-loop : goal.invariant-loop
invariant-loop g l = record {
  can : (goal.iterator-loop g).can_next l.iterator';
  finite : (goal.iterator-loop g).is_finite l.iterator';
  of : IsSeatOf l.count l.seat;
  waiter : (card_of l.seat).number < (sizes_of l.count).waiters;
  idle : IsIdle l.seat;
}
