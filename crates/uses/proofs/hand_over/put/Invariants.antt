use Rattle.std.proofs.Common.{◌≡◌}
use Rattle.rtrb.specs.Ring.{sent, SameProducer}
use Rattle.uses.proofs.hand_over.put.Given as goal

-- the ring is unchanged, and nothing was moved
abbrev pub invariant-loop : goal.invariant-loop
invariant-loop g l = record {
  can : (goal.iterator-loop g).can_next l.iterator';
  finite : (goal.iterator-loop g).is_finite l.iterator';
  ring : SameProducer l.fn.producer l.producer;
  same : sent l.producer ≡ sent l.fn.producer;
}
