-- The place among the axes passed.
use Rattle.std.proofs.Common.{◌≡◌, drop}
use Rattle.tensor_shape.specs.Index.{place}
use Rattle.tensor_shape.proofs.dims.place_of.Given as goal

abbrev pub invariant-loop-axis : goal.invariant-loop-axis
invariant-loop-axis l = l.place ≡ place (drop l.axis l.sizes) (drop l.axis l.index)
