-- The products before q.
use Rattle.std.proofs.Common.{◌≡◌, ℕ, ◌+◌, ◌*◌, ◌/◌, ◌%◌, ◌<◌}
use Rattle.tensor_shape.specs.Wrap.{wrap}
use Rattle.tensor_values.specs.Values.{value_in}
use Rattle.tensor_dots.specs.private.RowPairs.{pair_sum}
use Rattle.tensor_dots.proofs.dots.wide_eight.dealt_eight.Given as goal

abbrev pub invariant-loop-q : goal.invariant-loop-q
invariant-loop-q l = (t : ℕ) → t < 8 → value_in l.sums t
    ≡ wrap (pair_sum l.pair (l.k + (t % 2 * 4 + t / 2)) l.q)
