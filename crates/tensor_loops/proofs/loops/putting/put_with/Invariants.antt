-- The places below the counter have their values.
use Rattle.std.proofs.Common.{◌≡◌, ℕ, ◌<◌, pos, length, slice_index_or}
use Rattle.tensor_loops.specs.Loops.{either_way}
use Rattle.tensor_loops.proofs.loops.putting.put_with.Given as goal

abbrev pub invariant-loop-place : goal.invariant-loop-place
invariant-loop-place l = record {
  len : length l.values ≡ length l.first;
  each : (k : ℕ) → k < l.place → slice_index_or l.values k (pos 0)
      ≡ either_way l.link.operation l.link.swapped (slice_index_or l.first k (pos 0))
      l.other;
}
