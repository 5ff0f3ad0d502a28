-- The values so far, and where the next row begins.
use Rattle.std.proofs.Common.{◌≡◌, ◌+◌, ◌-◌, ◌*◌, ◌/◌, ◌<◌, ◌≤◌, ◌++◌, map, vec_len, vec_capacity}
use Rattle.std.specs.List.{range_with_len}
use Rattle.tensor_values.specs.Values.{value_in}
use Rattle.tensor_views.specs.View.{along}
use Rattle.tensor_loops.proofs.gather.gather_rows.Given as goal

abbrev pub invariant-loop-row : goal.invariant-loop-row
invariant-loop-row l = record {
  above : l.first ≤ l.place;
  below : l.place ≤ l.last;
  index : l.index < l.axis.size;
  here : l.place < l.last → l.place ≡ l.index + l.axis.size * (l.first / l.axis.size + l.row-index);
  items : l.gathered.items ≡ l.initial.gathered.items
      ++ map (λ p. value_in l.values (along l.rows l.axis l.first p)) (range_with_len l.first (l.place - l.first));
  room : vec_len l.gathered + (l.last - l.place) ≤ vec_capacity l.gathered;
}
