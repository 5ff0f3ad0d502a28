use Rattle.std.proofs.Common.{◌≡◌, map, take, length, vec_capacity}
use Rattle.tensor_views.specs.private.Tracing.{opened}
use Rattle.tensor_views.proofs.composing.open.Given as goal

abbrev pub invariant-loop-axis : goal.invariant-loop-axis
invariant-loop-axis l =
    (l.traces.items ≡ map opened (take l.axis-index l.axes)) × (vec_capacity l.traces ≡ length l.axes)
