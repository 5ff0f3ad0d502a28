-- The values are those of the operations so far.
use Rattle.std.proofs.Common.{◌≡◌, ℕ, ◌<◌, pos, get_or, length, take}
use Rattle.tensor_loops.specs.Chain.{chained}
use Rattle.tensor_loops.proofs.loops.chain.combine_chain.Given as goal

abbrev pub invariant-loop-link : goal.invariant-loop-link
invariant-loop-link l = record {
  len : length l.values ≡ length l.operand;
  each : (k : ℕ) → k < length l.operand → get_or l.values k (pos 0)
      ≡ chained (take l.link-index l.links) (get_or l.initial.values k (pos 0)) (get_or l.operand k (pos 0));
}
