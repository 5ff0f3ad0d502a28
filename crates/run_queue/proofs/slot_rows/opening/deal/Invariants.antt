-- The keeper has the accounts of the seats that are not dealt yet.
use Rattle.std.proofs.Common.{◌≡◌, ◌-◌, [], map}
use Rattle.std.specs.Prelude.{All}
use Rattle.std.specs.Vec.{vec_capacity}
use Rattle.std.specs.List.{range_with_len}
use Rattle.run_queue.specs.Views.{fresh}
use Rattle.run_queue.specs.SlotSeats.{table_of, number_in, puts_of, takes_of, front_of}
use Rattle.run_queue.proofs.slot_rows.opening.deal.Given as goal

abbrev pub invariant-loop-number : goal.invariant-loop-number
invariant-loop-number g l = record {
  of : l.keeper.table_id ≡ l.initial.keeper.table_id;
  left : l.keeper.me ≡ (fresh (l.count - l.number), []);
  numbers : map number_in l.seats.items ≡ range_with_len 0 l.number;
  ours : All (λ s. table_of s ≡ l.initial.keeper.table_id) l.seats.items;
  accounts : All (λ s. (puts_of s ≡ []) × (takes_of s ≡ [])) l.seats.items;
  fronts : All (λ s. front_of s ≡ 0) l.seats.items;
  room : vec_capacity l.seats ≡ vec_capacity l.initial.seats;
}
