use Rattle.std.proofs.Common.{◌≤◌}
use Rattle.event_count.specs.Seats.{IsSeatOf, IsIdle}
use Rattle.pool_part_tests.proofs.threads.notify_often.Given as goal

abbrev pub invariant-loop : goal.invariant-loop
invariant-loop g l = record {
  can : (goal.iterator-loop g).can_next l.iterator';
  finite : (goal.iterator-loop g).is_finite l.iterator';
  of : IsSeatOf l.count l.seat;
  idle : IsIdle l.seat;
  told : l.told ≤ l.run.notices;
}
