use Rattle.std.proofs.Common.{◌≡◌, ◌-◌, ◌*◌, ◌≤◌, map, vec_len, vec_capacity}
use Rattle.std.specs.Prelude.{slice_index}
use Rattle.std.specs.List.{range_with_len}
use Rattle.uses.proofs.squares.SquaresKernel.fill.Given as goal

-- the squares of the places so far
abbrev pub invariant-loop-place : goal.invariant-loop-place
invariant-loop-place g l = record {
  items : l.squares.items ≡ map
      (λ place. slice_index l.self.numbers.now place * slice_index l.self.numbers.now place)
      (range_with_len l.first (l.place - l.first));
  len : vec_len l.squares ≡ l.place - l.first;
  room : l.last - l.first ≤ vec_capacity l.squares;
}
