-- The seat, still stacked, after swaps that found no token.
use Rattle.std.proofs.Common.{◌≡◌, ◌≤◌}
use Rattle.event_count.specs.Seats.{card_of, IsSeatOf}
use Rattle.event_count.specs.Waits.{polled}
use Rattle.event_count.proofs.count.Count.take_token.Given as goal

abbrev pub invariant-loop : goal.invariant-loop
invariant-loop g l = record {
  can : (goal.iterator-loop g).can_next l.iterator';
  finite : (goal.iterator-loop g).is_finite l.iterator';
  of : IsSeatOf l.self l.seat;
  more : (card_of l.fn.seat).polls ≤ (card_of l.seat).polls;
  same : card_of l.seat ≡ polled (card_of l.fn.seat) (card_of l.seat).polls;
}
