use Rattle.std.proofs.Common.{◌≡◌, ◌-◌, ◌/◌, ◌≤◌, map, vec_len, vec_capacity}
use Rattle.std.specs.List.{range_with_len}
use Rattle.memory_tests.proofs.halves.HalvesKernel.fill.Given as goal

abbrev pub invariant-loop-place : goal.invariant-loop-place
invariant-loop-place g l = record {
  items : l.halves.items ≡ map (λ place. place / 2) (range_with_len l.first (l.place - l.first));
  len : vec_len l.halves ≡ l.place - l.first;
  room : l.last - l.first ≤ vec_capacity l.halves;
}
