use Rattle.std.proofs.Common.{◌<◌}
use Rattle.event_count.specs.Seats.{card_of, sizes_of, IsSeatOf, IsIdle}
use Rattle.pool_part_tests.proofs.threads.wait_often.Given as goal

abbrev pub invariant-loop-turn : goal.invariant-loop-turn
invariant-loop-turn g l = record {
  of : IsSeatOf l.count l.seat;
  waiter : (card_of l.seat).number < (sizes_of l.count).waiters;
  idle : IsIdle l.seat;
}
