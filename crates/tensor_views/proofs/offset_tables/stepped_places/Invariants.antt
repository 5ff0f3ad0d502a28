-- The places of the axes from the k-th on.
use Rattle.std.proofs.Common.{◌≡◌, ℕ, ◌<◌, ◌≤◌, drop, length, slice_index}
use Rattle.tensor_shape.specs.Index.{size_of, index_of}
use Rattle.tensor_views.specs.Stepped.{stepped}
use Rattle.tensor_views.proofs.offset_tables.stepped_places.Given as goal

abbrev pub invariant-loop-k : goal.invariant-loop-k
invariant-loop-k l = record {
  above : l.first ≤ l.k;
  len : length l.places.items ≡ size_of (drop l.k l.sizes);
  each : (p : ℕ) → p < size_of (drop l.k l.sizes)
      → slice_index l.places.items p ≡ stepped (drop l.k l.steps) (index_of (drop l.k l.sizes) p);
}
