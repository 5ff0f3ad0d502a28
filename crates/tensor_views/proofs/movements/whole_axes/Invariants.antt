-- The axes so far and those that are left are all, and the step times what is left is within the limit.
use Rattle.std.proofs.Common.{◌≡◌, ◌≤◌, ◌*◌, ◌++◌, drop}
use Rattle.tensor_shape.specs.Legal.{most_elements, bulk_of}
use Rattle.tensor_views.specs.Axes.{axes_from}
use Rattle.tensor_views.proofs.movements.whole_axes.Given as goal

abbrev pub invariant-loop-size : goal.invariant-loop-size
invariant-loop-size l = record {
  items : l.axes.items ++ axes_from l.step (drop l.size-index l.sizes) ≡ axes_from 1 l.sizes;
  few : l.step * bulk_of (drop l.size-index l.sizes) ≤ most_elements;
}
