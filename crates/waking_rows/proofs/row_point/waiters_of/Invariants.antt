use Rattle.std.proofs.Common.{◌≡◌, All, map, vec_len, vec_capacity}
use Rattle.event_count.specs.Seats.{card_of, seat_id, IsSeatOf}
use Rattle.event_count.specs.Rows.Seats.{row_count_id, IsSilent}
use Rattle.waking_rows.specs.Credits.{banking}
use Rattle.waking_rows.proofs.row_point.waiters_of.Given as goal

-- the seats so far are in the list, and the others announce nothing either
abbrev pub invariant-loop-seat : goal.invariant-loop-seat
invariant-loop-seat g l = record {
  cards : map (λ waiter. card_of waiter.seat) l.list.items
      ≡ map (λ seat. banking (card_of seat)) l.yielded;
  room : vec_capacity l.list ≡ vec_len l.fn.seats;
  silent : All IsSilent l.seat-iterator.rest.items;
  others : All (IsSeatOf l.count) l.seat-iterator.rest.items;
  ours : All (λ waiter. seat_id waiter.seat ≡ row_count_id l.count) l.list.items;
}
