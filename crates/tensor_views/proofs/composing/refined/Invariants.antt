-- The stride times what is left is within the limit, and the axes reach the same places.
use Rattle.std.proofs.Common.{◌*◌, ◌<◌, ◌^◌, drop}
use Rattle.tensor_views.specs.private.Tracing.{IsSameView}
use Rattle.tensor_views.specs.View.{view_size}
use Rattle.tensor_views.proofs.composing.refined.Given as goal

abbrev pub invariant-loop-axis : goal.invariant-loop-axis
invariant-loop-axis l = record {
  some : 0 < view_size (drop l.axis-index l.second);
  few : l.stride * view_size (drop l.axis-index l.second) < 2 ^ 32;
  same : IsSameView l.refined.items l.axes;
}
