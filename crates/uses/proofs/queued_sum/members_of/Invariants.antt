use Rattle.std.proofs.Common.{◌≡◌, ◌+◌, All, length, vec_len, vec_capacity}
use Rattle.event_count.specs.Seats.{seat_id, IsIdle}
use Rattle.event_count.specs.Rows.Seats.{IsSilent}
use Rattle.uses.proofs.queued_sum.members_of.Given as goal

-- each seat so far has a part of the ledger, and none of its amount; the others are as they were
abbrev pub invariant-loop-seat : goal.invariant-loop-seat
invariant-loop-seat g l = record {
  count : vec_len l.members ≡ length l.yielded;
  room : vec_capacity l.members ≡ vec_len l.fn.seats;
  parts : l.all.parts + length l.yielded ≡ l.fn.all.parts;
  none : l.all.amount ≡ 0;
  ours : All (λ seat. seat_id seat ≡ g.C.Crew.count) l.seat-iterator.rest.items;
  idle : All IsIdle l.seat-iterator.rest.items;
  silent : All IsSilent l.seat-iterator.rest.items;
}
