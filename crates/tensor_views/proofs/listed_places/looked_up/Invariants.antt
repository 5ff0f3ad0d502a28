-- The places reached so far, the room, and the row of the place before.
use Rattle.std.proofs.Common.{◌≡◌, ◌*◌, ◌/◌, length, map, take, vec_capacity}
use Rattle.tensor_views.specs.View.{reached}
use Rattle.tensor_views.proofs.listed_places.looked_up.Given as goal

abbrev pub invariant-loop-place : goal.invariant-loop-place
invariant-loop-place l = record {
  items : l.sources.items ≡ map (reached l.view.start l.view.axes.now) (take l.place-index l.places);
  room : vec_capacity l.sources ≡ length l.places;
  first : l.row.first ≡ l.axis.size * (l.row.first / l.axis.size);
  start : l.row.start ≡ reached l.view.start l.slower.axes.now (l.row.first / l.axis.size);
}
