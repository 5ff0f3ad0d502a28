-- The axes so far and those that are left are all.
use Rattle.std.proofs.Common.{◌≡◌, ◌++◌, drop}
use Rattle.tensor_views.specs.private.MovedAxes.{repeated_axes}
use Rattle.tensor_views.proofs.movements.repeated_axes.Given as goal

abbrev pub invariant-loop-k : goal.invariant-loop-k
invariant-loop-k l = l.repeated.items ++ repeated_axes (drop l.k l.axes) (drop l.k l.counts) ≡ repeated_axes l.axes l.counts
