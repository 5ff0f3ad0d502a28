-- The seat, after looks and lost exchanges.
use Rattle.event_count.specs.Seats.{card_of, IsSeatOf}
use Rattle.event_count.specs.Waits.{IsLater}
use Rattle.event_count.proofs.count.Count.cancel.Given as goal

abbrev pub invariant-loop : goal.invariant-loop
invariant-loop g l = record {
  can : (goal.iterator-loop g).can_next l.iterator';
  finite : (goal.iterator-loop g).is_finite l.iterator';
  of : IsSeatOf l.self l.seat;
  later : IsLater (card_of l.fn.seat) (card_of l.seat);
}
