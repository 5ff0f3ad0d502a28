-- The values at the places passed, and the room.
use Rattle.std.proofs.Common.{◌≡◌, length, map, take, vec_capacity}
use Rattle.tensor_values.specs.Values.{value_in}
use Rattle.tensor_loops.proofs.gather.gathered.Given as goal

abbrev pub invariant-loop-place : goal.invariant-loop-place
invariant-loop-place l =
    (l.gathered.items ≡ map (value_in l.values) (take l.place-index l.places))
    × (vec_capacity l.gathered ≡ length l.places)
