-- The numbers of the axes so far.
use Rattle.std.proofs.Common.{◌≡◌, take}
use Rattle.tensor_terms.specs.Movement.{shuffled_dims}
use Rattle.tensor_terms.proofs.dims.movement_dims.shuffled.Given as goal

abbrev pub invariant-loop-axis : goal.invariant-loop-axis
invariant-loop-axis l = l.shuffled.items ≡ shuffled_dims l.numbers (take l.axis-index l.order)
