-- What the traces and the axes that are left reach together; and what is left is within bounds.
use Rattle.std.proofs.Common.{◌≡◌, ℕ, ◌+◌, ◌<◌, ◌^◌, map, drop}
use Rattle.tensor_views.specs.Composing.{span}
use Rattle.tensor_views.specs.private.Tracing.{left_axis, traced_axis}
use Rattle.tensor_views.specs.View.{view_size, reached}
use Rattle.tensor_views.proofs.view.ViewRef.then.Given as goal

abbrev pub invariant-loop-axis : goal.invariant-loop-axis
invariant-loop-axis l = record {
  some : 0 < view_size (drop l.axis-index l.second.axes.now);
  size : view_size (map traced_axis l.traces.items) ≡ view_size l.self.axes.now;
  first : l.left + span (map left_axis l.traces.items) < 2 ^ 32;
  second : l.place + span (drop l.axis-index l.second.axes.now) < 2 ^ 32;
  reaches : (p : ℕ) → p < view_size l.self.axes.now
      → l.place + reached 0 (map traced_axis l.traces.items) p
      + reached 0 (drop l.axis-index l.second.axes.now) (l.left + reached 0 (map left_axis l.traces.items) p)
      ≡ reached l.second.start l.second.axes.now (reached l.self.start l.self.axes.now p);
}
