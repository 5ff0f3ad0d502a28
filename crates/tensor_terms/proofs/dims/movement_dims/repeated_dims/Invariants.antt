-- The dims so far and those of what is left.
use Rattle.std.proofs.Common.{◌≡◌, ◌++◌, drop, length}
use Rattle.tensor_terms.specs.Movement.{repeated_dims}
use Rattle.tensor_terms.proofs.dims.movement_dims.repeated_dims.Given as goal

abbrev pub invariant-loop-axis : goal.invariant-loop-axis
invariant-loop-axis l =
    (l.repeated.items ++ repeated_dims (drop l.axis l.sizes) (drop l.axis l.counts) ≡ repeated_dims l.sizes l.counts)
    × (length l.repeated.items ≡ l.axis)
