-- The places so far, and where the next row begins.
use Rattle.std.proofs.Common.{◌≡◌, ◌+◌, ◌-◌, ◌*◌, ◌/◌, ◌<◌, ◌≤◌, ◌++◌, map, vec_len, vec_capacity}
use Rattle.std.specs.List.{range_with_len}
use Rattle.tensor_views.specs.View.{along}
use Rattle.tensor_views.proofs.run_places.add_rows.Given as goal

abbrev pub invariant-loop-row : goal.invariant-loop-row
invariant-loop-row l = record {
  above : l.first ≤ l.place;
  below : l.place ≤ l.last;
  index : l.index < l.axis.size;
  here : l.place < l.last → l.place ≡ l.index + l.axis.size * (l.first / l.axis.size + l.row-index);
  items : l.places.items ≡ l.initial.places.items ++ map (along l.rows l.axis l.first) (range_with_len l.first (l.place - l.first));
  room : vec_len l.places + (l.last - l.place) ≤ vec_capacity l.places;
}
