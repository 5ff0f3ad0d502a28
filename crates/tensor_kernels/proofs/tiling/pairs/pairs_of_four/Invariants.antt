-- The sums of the first q pairs by halves, without the products of the pairs of each row and the
-- column.
use Rattle.std.proofs.Common.{◌≡◌, ℕ, ◌<◌, ◌+ℤ◌, map, to_z}
use Rattle.std.specs.Int.{w64}
use Rattle.tensor_values.specs.Values.{value_in}
use Rattle.tensor_shape.specs.Wrap.{wrap}
use Rattle.tensor_dots.specs.Halves.{AreWords, joined}
use Rattle.tensor_kernels.specs.private.Pairs.{lane, pairs_dot, without_own}
use Rattle.tensor_dots.specs.Lanes.{AreLanes}
use Rattle.tensor_kernels.proofs.tiling.pairs.pairs_of_four.Given as goal

abbrev pub invariant-loop-q : goal.invariant-loop-q
invariant-loop-q l = record {
  lanes : AreLanes (map (to_z w64) l.low);
  words : AreWords l.words;
  rows : (r : ℕ) → r < 4 → joined (map (to_z w64) l.low) l.words r
      ≡ wrap (without_own l.rows.sums.now l.column.sums.now r
      +ℤ pairs_dot (lane 4 l.a r) (value_in l.b) l.q);
}
