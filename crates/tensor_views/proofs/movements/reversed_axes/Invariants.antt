-- The axes so far and those that are left are all.
use Rattle.std.proofs.Common.{◌≡◌, ◌++◌, drop}
use Rattle.tensor_views.specs.private.MovedAxes.{reversed_axes}
use Rattle.tensor_views.proofs.movements.reversed_axes.Given as goal

abbrev pub invariant-loop-k : goal.invariant-loop-k
invariant-loop-k l = l.swapped.items ++ reversed_axes (drop l.k l.axes) (drop l.k l.flags) ≡ reversed_axes l.axes l.flags
