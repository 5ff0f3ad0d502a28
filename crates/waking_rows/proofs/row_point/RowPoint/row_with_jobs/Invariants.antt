-- The pre-waiter, which has found the rows so far empty.
use Rattle.std.proofs.Common.{◌≡◌}
use Rattle.event_word.specs.declared.phase.Phase.TheVariants.{Pre}
use Rattle.event_count.specs.Seats.{card_of, seat_id}
use Rattle.event_count.specs.Rows.Calls.{IsAfterPasses}
use Rattle.waking_rows.specs.Points.{FindsNoJobs}
use Rattle.waking_rows.proofs.row_point.RowPoint.row_with_jobs.Given as goal

abbrev pub invariant-loop-row : goal.invariant-loop-row
invariant-loop-row g l = record {
  ours : seat_id l.seat ≡ seat_id l.fn.seat;
  pre : (card_of l.seat).phase ≡ Pre;
  same : IsAfterPasses (card_of l.fn.seat) (card_of l.seat);
  none : FindsNoJobs l.row (card_of l.fn.seat) (card_of l.seat);
}
