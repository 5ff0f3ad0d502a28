-- The keeper has the cards of the seats that are gone from the list, the last first.
use Rattle.std.proofs.Common.{◌≡◌, ◌++◌, [], map, reverse, All}
use Rattle.event_count.specs.Seats.{card_of, seat_id}
use Rattle.event_count.proofs.gathering.gather.Given as goal

abbrev pub invariant-loop-seat : goal.invariant-loop-seat
invariant-loop-seat g l = record {
  of : l.keeper.table_id ≡ l.shared.table_id;
  none_held : l.keeper.me.1 ≡ [];
  ours : All (λ seat. seat_id seat ≡ l.shared.table_id) l.seats.items;
  cards : l.keeper.me.0.cards ++ reverse (map card_of l.seats.items)
      ≡ reverse (map card_of l.initial.seats.items);
}

abbrev pub decreases-loop-seat : goal.decreases-loop-seat
decreases-loop-seat g l = goal.left-loop-seat g l
