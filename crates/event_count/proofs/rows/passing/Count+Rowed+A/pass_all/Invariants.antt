-- The pre-waiter, which has passed the flag and the rows so far.
use Rattle.event_word.specs.declared.phase.Phase.TheVariants.{Pre}
use Rattle.std.proofs.Common.{◌≡◌, None}
use Rattle.event_count.specs.Kinds.{HasPassed}
use Rattle.event_count.specs.Seats.{card_of, looked_of}
use Rattle.event_count.specs.Seats.{IsSeatOf}
use Rattle.event_count.specs.Rows.Calls.{IsAfterPasses}
use Rattle.event_count.proofs.rows.passing.Count+Rowed+A.pass_all.Given as goal

abbrev pub invariant-loop-row : goal.invariant-loop-row
invariant-loop-row g l = record {
  of : IsSeatOf l.self l.seat;
  used : looked_of l.seat ≡ None;
  pre : (card_of l.seat).phase ≡ Pre;
  same : IsAfterPasses (card_of l.fn.seat) (card_of l.seat);
  passed : HasPassed l.row (card_of l.seat);
}
