-- What the seat has done and what it owes come to the same.
use Rattle.std.proofs.Common.{◌≡◌}
use Rattle.event_count.specs.Gains.{settling}
use Rattle.event_count.specs.Seats.{card_of, IsSeatOf}
use Rattle.event_count.proofs.count.Count.unpark_all.Given as goal

abbrev pub invariant-loop : goal.invariant-loop
invariant-loop g l = record {
  can : (goal.iterator-loop g).can_next l.iterator';
  finite : (goal.iterator-loop g).is_finite l.iterator';
  of : IsSeatOf l.self l.seat;
  same : settling (card_of l.seat) ≡ settling (card_of l.fn.seat);
}
