-- The values so far, how many of each operand's there are among them, and the room.
use Rattle.std.proofs.Common.{◌≡◌, length, take, vec_len, vec_capacity}
use Rattle.tensor_values.specs.Interleaving.{first_places, second_places, AreInterleaved}
use Rattle.tensor_loops.proofs.gather.interleaved.interleaved_list.Given as goal

abbrev pub invariant-loop-place : goal.invariant-loop-place
invariant-loop-place l = record {
  first : l.first ≡ length (first_places l.turns.first l.turns.second (take l.place-index l.places));
  second : l.second ≡ length (second_places l.turns.first l.turns.second (take l.place-index l.places));
  items : AreInterleaved l.turns.first l.turns.second (take l.place-index l.places)
      (first_places l.turns.first l.turns.second l.places) (second_places l.turns.first l.turns.second l.places)
      l.firsts l.seconds l.values.items;
  len : vec_len l.values ≡ l.place-index;
  room : vec_capacity l.values ≡ length l.places;
}
