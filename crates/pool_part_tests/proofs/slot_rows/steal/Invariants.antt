-- The thief's seat stays one of the rows.
use Rattle.std.proofs.Common.{◌≡◌}
use Rattle.run_queue.specs.SlotSeats.{table_of}
use Rattle.pool_part_tests.proofs.slot_rows.steal.Given as goal

abbrev pub invariant-loop : goal.invariant-loop
invariant-loop g l = table_of l.seat ≡ table_of l.initial.seat
