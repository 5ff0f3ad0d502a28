-- What is reached so far, and what the axes that are left add to it.
use Rattle.std.proofs.Common.{◌≡◌, ◌+◌, ◌<◌, drop}
use Rattle.tensor_views.specs.View.{view_size, reached}
use Rattle.tensor_views.proofs.view.ViewRef.at.Given as goal

abbrev pub invariant-loop-axis : goal.invariant-loop-axis
invariant-loop-axis l = record {
  whole : l.reached + reached 0 (drop l.axis-index l.self.axes.now) l.rest ≡ reached 0 l.self.axes.now l.place;
  within : l.rest < view_size (drop l.axis-index l.self.axes.now);
}
