-- The places below the counter have their values.
use Rattle.std.proofs.Common.{◌≡◌, ℕ, ◌<◌, pos, length, slice_index_or}
use Rattle.tensor_values.specs.Scalars.{applied}
use Rattle.tensor_loops.proofs.loops.putting.put_each_applied.Given as goal

abbrev pub invariant-loop-place : goal.invariant-loop-place
invariant-loop-place l =
    (length l.values ≡ length l.list)
    × ((k : ℕ) → k < l.place → slice_index_or l.values k (pos 0) ≡ applied l.operation (slice_index_or l.list k (pos 0)))
