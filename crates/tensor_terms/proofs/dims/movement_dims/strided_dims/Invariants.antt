-- The dims so far and those of what is left.
use Rattle.std.proofs.Common.{◌≡◌, ◌++◌, drop, length}
use Rattle.tensor_terms.specs.Movement.{strided_dims}
use Rattle.tensor_terms.proofs.dims.movement_dims.strided_dims.Given as goal

abbrev pub invariant-loop-axis : goal.invariant-loop-axis
invariant-loop-axis l =
    (l.strided.items ++ strided_dims (drop l.axis l.sizes) (drop l.axis l.steps) ≡ strided_dims l.sizes l.steps)
    × (length l.strided.items ≡ l.axis)
