use Rattle.std.proofs.Common.{◌≡◌, vec_len, vec_capacity}
use Rattle.rtrb.specs.Ring.{received, SameConsumer}
use Rattle.uses.proofs.hand_over.take_all.Given as goal

-- what was received so far is in the list
abbrev pub invariant-loop : goal.invariant-loop
invariant-loop g l = record {
  ring : SameConsumer l.fn.consumer l.consumer;
  received : received l.consumer ≡ l.got.items;
  count : vec_len l.got ≡ l.counter;
  room : vec_capacity l.got ≡ vec_capacity l.fn.got;
}
