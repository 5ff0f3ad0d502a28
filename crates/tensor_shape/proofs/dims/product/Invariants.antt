-- The product so far, times that of what is left, is the whole.
use Rattle.std.proofs.Common.{◌≡◌, ◌≤◌, ◌*◌, drop}
use Rattle.tensor_shape.specs.Index.{size_of}
use Rattle.tensor_shape.specs.Legal.{most_elements, bulk_of}
use Rattle.tensor_shape.proofs.dims.product.Given as goal

abbrev pub invariant-loop-size : goal.invariant-loop-size
invariant-loop-size l =
    (l.product * size_of (drop l.size-index l.sizes) ≡ size_of l.sizes)
    × (l.product * bulk_of (drop l.size-index l.sizes) ≤ most_elements)
