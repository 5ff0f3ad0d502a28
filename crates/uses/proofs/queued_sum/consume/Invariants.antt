use Rattle.std.proofs.Common.{◌<◌}
use Rattle.event_count.specs.Seats.{card_of}
use Rattle.uses.proofs.queued_sum.consume.Given as goal

-- the seat is the same waiter's
abbrev pub invariant-loop : goal.invariant-loop
invariant-loop g l = record {
  can : (goal.iterator-loop g).can_next l.iterator';
  finite : (goal.iterator-loop g).is_finite l.iterator';
  waiter : (card_of l.member.seat).number < l.hub.consumers;
}
