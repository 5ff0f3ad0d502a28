-- The places so far, and the room.
use Rattle.std.proofs.Common.{◌≡◌, ℕ, ◌*◌, ◌+◌, ◌/◌, ◌%◌, ◌<◌, length, slice_index, vec_capacity}
use Rattle.tensor_views.proofs.offset_tables.with_axis.Given as goal

abbrev pub invariant-loop-place : goal.invariant-loop-place
invariant-loop-place l = record {
  long : length l.moved.items ≡ l.place-index * l.size;
  room : vec_capacity l.moved ≡ length l.places * l.size;
  each : (p : ℕ) → p < l.place-index * l.size
      → slice_index l.moved.items p ≡ slice_index l.places (p / l.size) + p % l.size * l.step;
}

abbrev pub invariant-loop-index : goal.invariant-loop-index
invariant-loop-index l = record {
  long : length l.moved.items ≡ l.place-index * l.size + l.index;
  room : vec_capacity l.moved ≡ length l.places * l.size;
  each : (p : ℕ) → p < l.place-index * l.size + l.index
      → slice_index l.moved.items p ≡ slice_index l.places (p / l.size) + p % l.size * l.step;
}
