-- The product so far, times that of what is left, is the whole.
use Rattle.std.proofs.Common.{◌≡◌, ◌≤◌, ◌*◌, drop}
use Rattle.tensor_shape.specs.Legal.{bulk_of}
use Rattle.tensor_shape.proofs.dims.holds_few.Given as goal

abbrev pub invariant-loop-size : goal.invariant-loop-size
invariant-loop-size l = (l.bulk * bulk_of (drop l.size-index l.sizes) ≡ bulk_of l.sizes) × (1 ≤ l.bulk)
