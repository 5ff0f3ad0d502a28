-- The axes so far and those that are left are all.
use Rattle.std.proofs.Common.{◌≡◌, ◌++◌, drop}
use Rattle.tensor_views.specs.private.MovedAxes.{strided_axes}
use Rattle.tensor_views.proofs.movements.strided_axes.Given as goal

abbrev pub invariant-loop-k : goal.invariant-loop-k
invariant-loop-k l = l.strided.items ++ strided_axes (drop l.k l.axes) (drop l.k l.steps) ≡ strided_axes l.axes l.steps
