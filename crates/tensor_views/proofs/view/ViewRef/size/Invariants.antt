-- The places so far, times those along the axes that are left, are all.
use Rattle.std.proofs.Common.{◌≡◌, ◌*◌, ◌<◌, drop}
use Rattle.tensor_views.specs.View.{view_size}
use Rattle.tensor_views.proofs.view.ViewRef.size.Given as goal

abbrev pub invariant-loop-axis : goal.invariant-loop-axis
invariant-loop-axis l = record {
  whole : l.places * view_size (drop l.axis-index l.self.axes.now) ≡ view_size l.self.axes.now;
  some : 0 < view_size (drop l.axis-index l.self.axes.now);
}
