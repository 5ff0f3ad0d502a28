-- The dims with the axes from the k-th on.
use Rattle.std.proofs.Common.{◌≡◌, drop, length}
use Rattle.tensor_terms.specs.Convolution.{window_dims}
use Rattle.tensor_terms.proofs.dims.convolution_dims.window_dims.Given as goal

abbrev pub invariant-loop-k : goal.invariant-loop-k
invariant-loop-k l =
    (l.window_index.items ≡ window_dims (drop l.k l.axes) (drop l.k l.kernel) l.sizes)
    × (length l.window_index.items ≡ length l.sizes)
