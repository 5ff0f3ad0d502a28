-- The last seat has the accounts of the seats that it took in.
use Rattle.std.proofs.Common.{◌≡◌, ℕ, ◌+◌, [], length, None}
use Rattle.std.specs.Prelude.{All}
use Rattle.std.specs.List.{flat_map}
use Rattle.run_queue.specs.Bag.{total}
use Rattle.run_queue.specs.SlotSeats.{table_of, puts_of, takes_of}
use Rattle.run_queue.proofs.slot_rows.closing.gather.Given as goal

abbrev pub invariant-loop-seat : goal.invariant-loop-seat
invariant-loop-seat g l = record {
  of : l.last.table_id ≡ l.initial.last.table_id;
  ours : All (λ s. table_of s ≡ l.initial.last.table_id) l.seats.items;
  none_busy : l.last.me.0.busy ≡ None;
  none_owed : l.last.me.0.owes ≡ None;
  none_held : l.last.me.1 ≡ [];
  parts : l.last.me.0.parts + length l.seats.items ≡ length l.initial.seats.items;
  puts : (h : g.row.J.Denot → ℕ)
      → total h l.last.me.0.puts + total h (flat_map puts_of l.seats.items)
      ≡ total h (flat_map puts_of l.initial.seats.items);
  takes : (h : g.row.J.Denot → ℕ)
      → total h l.last.me.0.takes + total h (flat_map takes_of l.seats.items)
      ≡ total h (flat_map takes_of l.initial.seats.items);
}

abbrev pub decreases-loop-seat : goal.decreases-loop-seat
decreases-loop-seat g l = goal.left-loop-seat g l
