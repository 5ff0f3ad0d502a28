-- The places of each operand so far, and the room.
use Rattle.std.proofs.Common.{◌≡◌, length, take, vec_capacity}
use Rattle.tensor_values.specs.Interleaving.{first_places, second_places}
use Rattle.tensor_loops.proofs.gather.interleaved.places_of_each.Given as goal

abbrev pub invariant-loop-place : goal.invariant-loop-place
invariant-loop-place l = record {
  firsts : l.firsts.items ≡ first_places l.turns.first l.turns.second (take l.place-index l.places);
  seconds : l.seconds.items ≡ second_places l.turns.first l.turns.second (take l.place-index l.places);
  first_room : vec_capacity l.firsts ≡ length l.places;
  second_room : vec_capacity l.seconds ≡ length l.places;
}
