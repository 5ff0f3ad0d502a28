-- The dims so far and those of what is left.
use Rattle.std.proofs.Common.{◌≡◌, ◌++◌, drop, length}
use Rattle.tensor_terms.specs.Padding.{padded_dims}
use Rattle.tensor_terms.proofs.dims.padding_dims.padded_dims.Given as goal

abbrev pub invariant-loop-axis : goal.invariant-loop-axis
invariant-loop-axis l =
    (l.padded.items ++ padded_dims (drop l.axis l.pairs) (drop l.axis l.sizes) ≡ padded_dims l.pairs l.sizes)
    × (length l.padded.items ≡ l.axis)
