-- The axes so far and those that are left are all.
use Rattle.std.proofs.Common.{◌≡◌, ◌++◌, drop}
use Rattle.tensor_views.specs.private.MovedAxes.{cut_axes}
use Rattle.tensor_views.proofs.movements.cut_axes.Given as goal

abbrev pub invariant-loop-k : goal.invariant-loop-k
invariant-loop-k l = l.cut.items ++ cut_axes (drop l.k l.axes) (drop l.k l.sizes) ≡ cut_axes l.axes l.sizes
