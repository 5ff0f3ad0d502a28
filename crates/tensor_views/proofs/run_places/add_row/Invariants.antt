-- The places of the row so far, and the room.
use Rattle.std.proofs.Common.{◌≡◌, ◌+◌, ◌-◌, ◌*◌, ◌++◌, map, vec_len, vec_capacity}
use Rattle.std.specs.List.{range_with_len}
use Rattle.tensor_views.specs.View.{steps_to}
use Rattle.tensor_views.proofs.run_places.add_row.Given as goal

abbrev pub invariant-loop-index : goal.invariant-loop-index
invariant-loop-index l = record {
  items : l.places.items ≡ l.initial.places.items ++ map (λ i. l.row + steps_to l.axis i * l.axis.step) (range_with_len l.from (l.index - l.from));
  capacity : vec_capacity l.places ≡ vec_capacity l.initial.places;
  len : vec_len l.places + (l.to - l.index) ≡ vec_len l.initial.places + (l.to - l.from);
}
