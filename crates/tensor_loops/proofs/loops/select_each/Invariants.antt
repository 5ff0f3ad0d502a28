-- The places below the counter have their values, and the others are as they were.
use Rattle.std.proofs.Common.{◌≡◌, ℕ, ◌<◌, ◌≤◌, pos, length, slice_index_or}
use Rattle.tensor_loops.specs.Loops.{selected}
use Rattle.tensor_loops.proofs.loops.select_each.Given as goal

abbrev pub invariant-loop-place : goal.invariant-loop-place
invariant-loop-place l =
    (length l.values ≡ length l.second)
    × ((k : ℕ) → k < l.place → slice_index_or l.values k (pos 0)
    ≡ selected l.order (slice_index_or l.initial.values k (pos 0)) (slice_index_or l.second k (pos 0)) (slice_index_or l.third k (pos 0)))
    × ((k : ℕ) → l.place ≤ k → slice_index_or l.values k (pos 0) ≡ slice_index_or l.initial.values k (pos 0))
