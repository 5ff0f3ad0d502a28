use Rattle.std.proofs.Common.{◌≡◌, take}
use Rattle.tensor_views.specs.private.MovedAxes.{shuffled_axes}
use Rattle.tensor_views.proofs.movements.shuffled_axes.Given as goal

abbrev pub invariant-loop-axis : goal.invariant-loop-axis
invariant-loop-axis l = l.shuffled.items ≡ shuffled_axes l.axes (take l.axis-index l.order)
