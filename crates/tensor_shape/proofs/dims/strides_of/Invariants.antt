-- The strides so far and those of what is left, and the product so far.
use Rattle.std.proofs.Common.{◌≡◌, ◌≤◌, ◌*◌, ◌++◌, drop, length}
use Rattle.tensor_shape.specs.Index.{strides_from}
use Rattle.tensor_shape.specs.Legal.{most_elements, bulk_of}
use Rattle.tensor_shape.proofs.dims.strides_of.Given as goal

abbrev pub invariant-loop-size : goal.invariant-loop-size
invariant-loop-size l =
    (l.strides.items ++ strides_from l.stride (drop l.size-index l.sizes) ≡ strides_from 1 l.sizes)
    × (length l.strides.items ≡ l.size-index)
    × (l.stride * bulk_of (drop l.size-index l.sizes) ≤ most_elements)
