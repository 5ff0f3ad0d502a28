-- The indices so far and those of what is left.
use Rattle.std.proofs.Common.{◌≡◌, ◌++◌, drop, length}
use Rattle.tensor_terms.specs.Movement.{wrapped}
use Rattle.tensor_terms.proofs.index.moved_index.wrapped.Given as goal

abbrev pub invariant-loop-axis : goal.invariant-loop-axis
invariant-loop-axis l =
    (l.read.items ++ wrapped (drop l.axis l.sizes) (drop l.axis l.index) ≡ wrapped l.sizes l.index)
    × (length l.read.items ≡ l.axis)
