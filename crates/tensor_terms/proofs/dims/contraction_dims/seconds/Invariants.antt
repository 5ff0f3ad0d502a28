-- The axes of the pairs so far.
use Rattle.std.proofs.Common.{◌≡◌, take}
use Rattle.tensor_terms.specs.Contraction.{seconds}
use Rattle.tensor_terms.proofs.dims.contraction_dims.seconds.Given as goal

abbrev pub invariant-loop-axis : goal.invariant-loop-axis
invariant-loop-axis l = l.axes.items ≡ seconds (take l.axis-index l.pairs)
