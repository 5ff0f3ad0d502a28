-- The rows of the panels before s are written, all others are as they were.
use Rattle.std.proofs.Common.{◌≡◌, ℕ, ◌+◌, ◌<◌, ◌≤◌, length}
use Rattle.tensor_kernels.specs.private.PackedChunks.{panel_at, put_value}
use Rattle.tensor_values.specs.Values.{value_in}
use Rattle.tensor_kernels.proofs.tiling.packed_chunk.PackedChunk.put.Given as goal

abbrev pub invariant-loop-s : goal.invariant-loop-s
invariant-loop-s l = record {
  len : length l.out ≡ length l.initial.out;
  put : (k : ℕ) → k < length l.initial.out → panel_at l.self (l.from + k) < l.s
      → value_in l.out k ≡ put_value l.self (l.from + k) (value_in l.initial.out k);
  kept : (k : ℕ) → k < length l.initial.out → l.s ≤ panel_at l.self (l.from + k)
      → value_in l.out k ≡ value_in l.initial.out k;
}
