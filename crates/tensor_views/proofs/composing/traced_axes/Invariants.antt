use Rattle.std.proofs.Common.{◌≡◌, map, take, length, vec_capacity}
use Rattle.tensor_views.specs.private.Tracing.{traced_axis}
use Rattle.tensor_views.proofs.composing.traced_axes.Given as goal

abbrev pub invariant-loop-trace : goal.invariant-loop-trace
invariant-loop-trace l =
    (l.axes.items ≡ map traced_axis (take l.trace-index l.traces)) × (vec_capacity l.axes ≡ length l.traces)
