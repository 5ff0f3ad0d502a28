use Rattle.std.proofs.Common.{◌≡◌, take}
use Rattle.rtrb.specs.Ring.{sent, SameProducer}
use Rattle.uses.proofs.hand_over.put_all.Given as goal

-- the numbers so far were sent
abbrev pub invariant-loop-number : goal.invariant-loop-number
invariant-loop-number g l = record {
  ring : SameProducer l.fn.producer l.producer;
  sent : sent l.producer ≡ take l.number-index l.numbers;
}
