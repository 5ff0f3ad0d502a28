-- The numbers at the axes from the k-th on are on top.
use Rattle.std.proofs.Common.{◌≡◌, drop, length}
use Rattle.tensor_terms.specs.Convolution.{window_index}
use Rattle.tensor_terms.proofs.index.windows.window_index.Given as goal

abbrev pub invariant-loop-k : goal.invariant-loop-k
invariant-loop-k l =
    (l.under.items ≡ window_index (drop l.k l.axes) (drop l.k l.top) l.index)
    × (length l.under.items ≡ length l.index)
