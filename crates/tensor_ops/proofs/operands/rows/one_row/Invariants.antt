-- The places so far, and the room.
use Rattle.std.proofs.Common.{◌≡◌, ℕ, ◌<◌, length, slice_index, vec_capacity}
use Rattle.tensor_ops.proofs.operands.rows.one_row.Given as goal

abbrev pub invariant-loop-place : goal.invariant-loop-place
invariant-loop-place l = record {
  long : length l.offsets.items ≡ l.place;
  room : vec_capacity l.offsets ≡ l.count;
  each : (q : ℕ) → q < l.place → slice_index l.offsets.items q ≡ q;
}
