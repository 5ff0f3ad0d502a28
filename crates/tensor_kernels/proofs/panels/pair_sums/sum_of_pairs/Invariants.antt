-- The sum of the first k products.
use Rattle.std.proofs.Common.{◌≡◌}
use Rattle.tensor_shape.specs.Wrap.{wrap}
use Rattle.tensor_kernels.specs.private.Pairs.{own_pairs, lane}
use Rattle.tensor_kernels.proofs.panels.pair_sums.sum_of_pairs.Given as goal

abbrev pub invariant-loop-k : goal.invariant-loop-k
invariant-loop-k l = l.sum ≡ wrap (own_pairs (lane l.height l.cells l.start) l.k)
