use Rattle.std.proofs.Common.{◌≡◌, ◌-◌, ◌≤◌, map, vec_len, vec_capacity}
use Rattle.std.specs.List.{range_with_len}
use Rattle.loop_tests.proofs.kernels.PlacesKernel.fill.Given as goal

abbrev pub invariant-loop-place : goal.invariant-loop-place
invariant-loop-place g l = record {
  items : l.places.items ≡ map (λ place. place) (range_with_len l.first (l.place - l.first));
  len : vec_len l.places ≡ l.place - l.first;
  room : l.last - l.first ≤ vec_capacity l.places;
}
