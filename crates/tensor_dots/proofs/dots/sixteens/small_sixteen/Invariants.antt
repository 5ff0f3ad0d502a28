-- The products before q, four rows in each vector.
use Rattle.std.proofs.Common.{◌≡◌, ℕ, ◌+◌, ◌<◌, map, to_z}
use Rattle.std.specs.Int.{w64}
use Rattle.tensor_shape.specs.Wrap.{wrap}
use Rattle.tensor_dots.specs.Lanes.{AreLanes}
use Rattle.tensor_values.specs.Values.{value_in}
use Rattle.tensor_dots.specs.private.RowPairs.{pair_sum}
use Rattle.tensor_dots.proofs.dots.sixteens.small_sixteen.Given as goal

abbrev pub invariant-loop-q : goal.invariant-loop-q
invariant-loop-q l = record {
  lanes_0 : AreLanes (map (to_z w64) l.c0);
  lanes_1 : AreLanes (map (to_z w64) l.c1);
  lanes_2 : AreLanes (map (to_z w64) l.c2);
  lanes_3 : AreLanes (map (to_z w64) l.c3);
  rows_0 : (r : ℕ) → r < 4 → value_in (map (to_z w64) l.c0) r
      ≡ wrap (pair_sum l.pair (l.k + r) l.q);
  rows_1 : (r : ℕ) → r < 4 → value_in (map (to_z w64) l.c1) r
      ≡ wrap (pair_sum l.pair (l.k + 4 + r) l.q);
  rows_2 : (r : ℕ) → r < 4 → value_in (map (to_z w64) l.c2) r
      ≡ wrap (pair_sum l.pair (l.k + 8 + r) l.q);
  rows_3 : (r : ℕ) → r < 4 → value_in (map (to_z w64) l.c3) r
      ≡ wrap (pair_sum l.pair (l.k + 12 + r) l.q);
}
