-- The products before q, four rows in each vector.
use Rattle.std.proofs.Common.{◌≡◌, ℕ, ◌+◌, ◌<◌, map, to_z}
use Rattle.std.specs.Int.{w64}
use Rattle.tensor_shape.specs.Wrap.{wrap}
use Rattle.tensor_dots.specs.Lanes.{AreLanes}
use Rattle.tensor_values.specs.Values.{value_in}
use Rattle.tensor_dots.specs.private.RowPairs.{pair_sum}
use Rattle.tensor_dots.proofs.dots.small_eight.small_eight.Given as goal

abbrev pub invariant-loop-q : goal.invariant-loop-q
invariant-loop-q l = record {
  lanes_low : AreLanes (map (to_z w64) l.low);
  lanes_high : AreLanes (map (to_z w64) l.high);
  low : (r : ℕ) → r < 4 → value_in (map (to_z w64) l.low) r
      ≡ wrap (pair_sum l.pair (l.k + r) l.q);
  high : (r : ℕ) → r < 4 → value_in (map (to_z w64) l.high) r
      ≡ wrap (pair_sum l.pair (l.k + 4 + r) l.q);
}
