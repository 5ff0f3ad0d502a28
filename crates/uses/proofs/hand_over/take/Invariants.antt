use Rattle.std.proofs.Common.{◌≡◌}
use Rattle.rtrb.specs.Ring.{received, SameConsumer}
use Rattle.uses.proofs.hand_over.take.Given as goal

-- the ring is unchanged, and nothing was moved
abbrev pub invariant-loop : goal.invariant-loop
invariant-loop g l = record {
  can : (goal.iterator-loop g).can_next l.iterator';
  finite : (goal.iterator-loop g).is_finite l.iterator';
  ring : SameConsumer l.fn.consumer l.consumer;
  same : received l.consumer ≡ received l.fn.consumer;
}
