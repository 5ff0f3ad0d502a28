-- The places below the counter are mapped, and the others are as they were; the row of the last one.
use Rattle.std.proofs.Common.{◌≡◌, ℕ, ◌<◌, ◌≤◌, ◌*◌, ◌/◌, length, slice_index}
use Rattle.tensor_views.specs.View.{reached}
use Rattle.tensor_views.proofs.mapping.map_through.Given as goal

abbrev pub invariant-loop-k : goal.invariant-loop-k
invariant-loop-k l = record {
  len : length l.places.items ≡ length l.initial.places.items;
  mapped : (k : ℕ) → k < l.k → slice_index l.places.items k
      ≡ reached l.view.start l.view.axes.now (slice_index l.initial.places.items k);
  left : (k : ℕ) → l.k ≤ k → slice_index l.places.items k ≡ slice_index l.initial.places.items k;
  first : l.row.first ≡ l.second.size * (l.row.first / l.second.size);
  start : l.row.start ≡ reached l.view.start l.slower.axes.now (l.row.first / l.second.size);
}
