use Rattle.std.proofs.Common.{◌≡◌, ◌%◌, ◌^◌, take}
use Rattle.std.specs.Prelude.{sum}
use Rattle.event_count.specs.Seats.{seat_id, IsIdle}
use Rattle.event_count.specs.Rows.Seats.{IsSilent}
use Rattle.uses.proofs.queued_sum.produce.Given as goal

-- the numbers so far are in the ledger, and what the queue didn't take is added up
abbrev pub invariant-loop-number : goal.invariant-loop-number
invariant-loop-number g l = record {
  ours : seat_id l.seat ≡ g.C.Crew.count;
  idle : IsIdle l.seat;
  silent : IsSilent l.seat;
  part : l.worth.parts ≡ 1;
  added : l.total ≡ l.worth.amount % 2 ^ 64;
  book : l.book.total ≡ sum (take l.number-index l.numbers);
}
