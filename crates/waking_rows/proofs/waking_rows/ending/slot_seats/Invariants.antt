-- The seats so far, and those that are left, have what all had.
use Rattle.std.proofs.Common.{◌≡◌, ℕ, ◌+◌, length, vec_capacity}
use Rattle.std.specs.Prelude.{All}
use Rattle.std.specs.List.{flat_map}
use Rattle.run_queue.specs.Bag.{total}
use Rattle.run_queue.specs.SlotSeats.{table_of, puts_of, takes_of}
use Rattle.waking_rows.specs.Seats.{puts_by, takes_by}
use Rattle.waking_rows.proofs.waking_rows.ending.slot_seats.Given as goal

abbrev pub invariant-loop-seat : goal.invariant-loop-seat
invariant-loop-seat g l = record {
  many : length l.list.items + length l.seats.items ≡ length l.initial.seats.items;
  room : vec_capacity l.list ≡ vec_capacity l.initial.list;
  ours : (table : _) → All (λ seat. table_of seat.slot ≡ table) l.initial.seats.items
      → All (λ seat. table_of seat.slot ≡ table) l.seats.items
      × All (λ slot. table_of slot ≡ table) l.list.items;
  puts : (h : g.row.J.Denot → ℕ) → total (λ it. h it.job) (flat_map puts_of l.list.items)
      + total h (flat_map puts_by l.seats.items)
      ≡ total h (flat_map puts_by l.initial.seats.items);
  takes : (h : g.row.J.Denot → ℕ) → total (λ it. h it.job) (flat_map takes_of l.list.items)
      + total h (flat_map takes_by l.seats.items)
      ≡ total h (flat_map takes_by l.initial.seats.items);
}

abbrev pub decreases-loop-seat : goal.decreases-loop-seat
decreases-loop-seat g l = goal.left-loop-seat g l
