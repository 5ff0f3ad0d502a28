-- Nothing that was left so far is greater, and what was left of the last place.
use Rattle.std.proofs.Common.{◌≡◌, ℕ, ◌<◌, ◌≤◌, ◌%◌, slice_index}
use Rattle.tensor_views.proofs.mapping.greatest_rest.Given as goal

abbrev pub invariant-loop-place : goal.invariant-loop-place
invariant-loop-place l = record {
  below : l.greatest < l.span;
  rest : l.rest ≡ l.last % l.span;
  each : (k : ℕ) → k < l.place-index → slice_index l.places k % l.span ≤ l.greatest;
}
