-- The values of the row so far, and the room.
use Rattle.std.proofs.Common.{◌≡◌, ◌+◌, ◌-◌, ◌*◌, ◌++◌, map, vec_len, vec_capacity}
use Rattle.std.specs.List.{range_with_len}
use Rattle.tensor_values.specs.Values.{value_in}
use Rattle.tensor_views.specs.View.{steps_to}
use Rattle.tensor_loops.proofs.gather.gather_each.Given as goal

abbrev pub invariant-loop-index : goal.invariant-loop-index
invariant-loop-index l = record {
  items : l.gathered.items ≡ l.initial.gathered.items
      ++ map (λ i. value_in l.values (l.row + steps_to l.axis i * l.axis.step)) (range_with_len l.from (l.index - l.from));
  capacity : vec_capacity l.gathered ≡ vec_capacity l.initial.gathered;
  len : vec_len l.gathered + (l.to - l.index) ≡ vec_len l.initial.gathered + (l.to - l.from);
}
