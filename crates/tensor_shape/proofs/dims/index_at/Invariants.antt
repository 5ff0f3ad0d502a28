-- The indices so far and those of what is left of the place.
use Rattle.std.proofs.Common.{◌≡◌, ◌<◌, ◌++◌, drop, length}
use Rattle.tensor_shape.specs.Index.{size_of, index_of}
use Rattle.tensor_shape.proofs.dims.index_at.Given as goal

abbrev pub invariant-loop-size : goal.invariant-loop-size
invariant-loop-size l =
    (l.index.items ++ index_of (drop l.size-index l.sizes) l.rest ≡ index_of l.sizes l.linear)
    × (length l.index.items ≡ l.size-index)
    × (l.rest < size_of (drop l.size-index l.sizes))
