-- The indices so far and those of what is left.
use Rattle.std.proofs.Common.{◌≡◌, ◌++◌, drop, length}
use Rattle.tensor_terms.specs.Movement.{offset_by}
use Rattle.tensor_terms.proofs.index.moved_index.offset_by.Given as goal

abbrev pub invariant-loop-axis : goal.invariant-loop-axis
invariant-loop-axis l =
    (l.read.items ++ offset_by (drop l.axis l.offsets) (drop l.axis l.index) ≡ offset_by l.offsets l.index)
    × (length l.read.items ≡ l.axis)
