-- The products before q.
use Rattle.std.proofs.Common.{◌≡◌}
use Rattle.tensor_shape.specs.Wrap.{wrap}
use Rattle.tensor_dots.specs.private.RowPairs.{pair_sum}
use Rattle.tensor_dots.proofs.dots.row_sums.sum_of_products.Given as goal

abbrev pub invariant-loop-q : goal.invariant-loop-q
invariant-loop-q l = l.sum ≡ wrap (pair_sum l.pair l.k l.q)
