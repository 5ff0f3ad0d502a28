-- The axes so far and those that are left are all.
use Rattle.std.proofs.Common.{◌≡◌, ◌++◌, drop}
use Rattle.tensor_views.specs.private.Tracing.{split_axes}
use Rattle.tensor_views.proofs.composing.split_axes.Given as goal

abbrev pub invariant-loop-axis : goal.invariant-loop-axis
invariant-loop-axis l = l.parts.items ++ split_axes l.stride (drop l.axis-index l.axes) ≡ split_axes l.stride l.axes
