-- The indices so far and those of what is left.
use Rattle.std.proofs.Common.{◌≡◌, ◌++◌, drop, length}
use Rattle.tensor_terms.specs.Movement.{scaled}
use Rattle.tensor_terms.proofs.index.moved_index.scaled.Given as goal

abbrev pub invariant-loop-axis : goal.invariant-loop-axis
invariant-loop-axis l =
    (l.read.items ++ scaled (drop l.axis l.steps) (drop l.axis l.index) ≡ scaled l.steps l.index)
    × (length l.read.items ≡ l.axis)
