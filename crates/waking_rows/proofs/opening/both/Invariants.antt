-- The seats so far, and those that are left, are by number.
use Rattle.std.proofs.Common.{◌≡◌, ℕ, ◌+◌, ◌++◌, [], map, length, All, vec_capacity}
use Rattle.std.specs.Iterator.Adapters.{zip_first, zip_second}
use Rattle.std.specs.Vec.Iter.{into_iter_items}
use Rattle.event_count.specs.Seats.{card_of, seat_id, IsIdle}
use Rattle.event_count.specs.Rows.Seats.{IsSilent}
use Rattle.run_queue.specs.SlotSeats.{number_in, puts_of, takes_of, table_of}
use Rattle.waking_rows.specs.Seats.{number_by, puts_by, takes_by, home_of, credits_by}
use Rattle.waking_rows.proofs.opening.both.Given as goal

abbrev pub invariant-loop-slot : goal.invariant-loop-slot
invariant-loop-slot g l = record {
  can : (goal.iterator-loop-slot g).can_next l.slot-iterator;
  finite : (goal.iterator-loop-slot g).is_finite l.slot-iterator;
  even : length (into_iter_items (zip_first l.slot-iterator))
      ≡ length (into_iter_items (zip_second l.slot-iterator));
  many : length l.list.items + length (into_iter_items (zip_first l.slot-iterator))
      ≡ length l.fn.slots.items;
  room : vec_capacity l.list ≡ length l.fn.slots.items;
  numbers : map number_by l.list.items
      ++ map number_in (into_iter_items (zip_first l.slot-iterator))
      ≡ map number_in l.fn.slots.items;
  idle : All IsIdle (into_iter_items (zip_second l.slot-iterator));
  silent : All IsSilent (into_iter_items (zip_second l.slot-iterator));
  ours : (table : _) → (count : _) → All (λ s. table_of s ≡ table) l.fn.slots.items
      → All (λ s. seat_id s ≡ count) l.fn.seats.items
      → All (λ s. table_of s ≡ table) (into_iter_items (zip_first l.slot-iterator))
      × All (λ s. seat_id s ≡ count) (into_iter_items (zip_second l.slot-iterator))
      × All (λ s. home_of s ≡ (table, count)) l.list.items;
  accounts : All (λ s. (puts_of s ≡ []) × (takes_of s ≡ [])) l.fn.slots.items
      → All (λ s. (puts_of s ≡ []) × (takes_of s ≡ []))
      (into_iter_items (zip_first l.slot-iterator))
      × All (λ s. (puts_by s ≡ []) × (takes_by s ≡ [])) l.list.items;
  paid : (credits : ℕ) → All (λ s. (card_of s).credits ≡ credits) l.fn.seats.items
      → All (λ s. (card_of s).credits ≡ credits) (into_iter_items (zip_second l.slot-iterator))
      × All (λ s. credits_by s ≡ credits) l.list.items;
}
