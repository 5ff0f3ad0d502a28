-- The seats that were made have the first cards, and the keeper has the others.
use Rattle.std.proofs.Common.{◌≡◌, ◌+◌, ◌-◌, All, map, vec_capacity, []}
use Rattle.std.specs.List.{range_with_len}
use Rattle.event_count.specs.Cards.{opening_card, view}
use Rattle.event_count.specs.Seats.{card_of, seat_id, HasNoLook}
use Rattle.event_count.proofs.opening.deal_all.Given as goal

abbrev pub invariant-loop-number : goal.invariant-loop-number
invariant-loop-number g l = record {
  cards : map card_of l.seats.items ≡ map (opening_card l.sizes) (range_with_len 0 l.number);
  room : vec_capacity l.seats ≡ l.sizes.waiters + l.sizes.notifiers;
  ours : All (λ seat. seat_id seat ≡ l.shared.table_id) l.seats.items;
  unlooked : All HasNoLook l.seats.items;
  of : l.keeper.table_id ≡ l.shared.table_id;
  left : l.keeper.me ≡ (
    view (map (opening_card l.sizes)
        (range_with_len l.number (l.sizes.waiters + l.sizes.notifiers - l.number))),
    [],
  );
}
