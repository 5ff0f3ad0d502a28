-- The owner stays the one of its row.
use Rattle.std.proofs.Common.{◌≡◌}
use Rattle.run_queue.specs.SlotSeats.{table_of, number_in}
use Rattle.pool_part_tests.proofs.slot_rows.own.Given as goal

abbrev pub invariant-loop-job : goal.invariant-loop-job
invariant-loop-job g l =
    (table_of l.seat ≡ table_of l.initial.seat) × (number_in l.seat ≡ number_in l.initial.seat)
