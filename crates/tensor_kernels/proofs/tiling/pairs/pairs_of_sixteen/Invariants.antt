-- The sums of the first q pairs by halves, four rows in each vector, without the products of the
-- pairs of each row and the column.
use Rattle.std.proofs.Common.{◌≡◌, ℕ, ◌+◌, ◌<◌, ◌+ℤ◌, map, to_z}
use Rattle.std.specs.Int.{w64}
use Rattle.tensor_values.specs.Values.{value_in}
use Rattle.tensor_shape.specs.Wrap.{wrap}
use Rattle.tensor_dots.specs.Halves.{AreWords, joined}
use Rattle.tensor_kernels.specs.private.Pairs.{lane, pairs_dot, without_own}
use Rattle.tensor_dots.specs.Lanes.{AreLanes}
use Rattle.tensor_kernels.proofs.tiling.pairs.pairs_of_sixteen.Given as goal

abbrev pub invariant-loop-q : goal.invariant-loop-q
invariant-loop-q l = record {
  lanes_0 : AreLanes (map (to_z w64) l.l0);
  lanes_1 : AreLanes (map (to_z w64) l.l1);
  lanes_2 : AreLanes (map (to_z w64) l.l2);
  lanes_3 : AreLanes (map (to_z w64) l.l3);
  words_0 : AreWords l.c0;
  words_1 : AreWords l.c1;
  words_2 : AreWords l.c2;
  words_3 : AreWords l.c3;
  rows_0 : (r : ℕ) → r < 4 → joined (map (to_z w64) l.l0) l.c0 r
      ≡ wrap (without_own l.rows.sums.now l.column.sums.now r
      +ℤ pairs_dot (lane 16 l.a r) (value_in l.b) l.q);
  rows_1 : (r : ℕ) → r < 4 → joined (map (to_z w64) l.l1) l.c1 r
      ≡ wrap (without_own l.rows.sums.now l.column.sums.now (4 + r)
      +ℤ pairs_dot (lane 16 l.a (4 + r)) (value_in l.b) l.q);
  rows_2 : (r : ℕ) → r < 4 → joined (map (to_z w64) l.l2) l.c2 r
      ≡ wrap (without_own l.rows.sums.now l.column.sums.now (8 + r)
      +ℤ pairs_dot (lane 16 l.a (8 + r)) (value_in l.b) l.q);
  rows_3 : (r : ℕ) → r < 4 → joined (map (to_z w64) l.l3) l.c3 r
      ≡ wrap (without_own l.rows.sums.now l.column.sums.now (12 + r)
      +ℤ pairs_dot (lane 16 l.a (12 + r)) (value_in l.b) l.q);
}
