-- The sums of the first q products, four rows in each vector.
use Rattle.std.proofs.Common.{◌≡◌, ℕ, ◌+◌, ◌<◌, map, to_z}
use Rattle.std.specs.Int.{w64}
use Rattle.tensor_values.specs.Values.{value_in}
use Rattle.tensor_shape.specs.Wrap.{wrap}
use Rattle.tensor_kernels.specs.private.Pairs.{lane}
use Rattle.tensor_dots.specs.Lanes.{AreLanes}
use Rattle.tensor_dots.specs.Products.{dot}
use Rattle.tensor_kernels.proofs.tiling.small.small_sixteen.Given as goal

abbrev pub invariant-loop-q : goal.invariant-loop-q
invariant-loop-q l = record {
  lanes_0 : AreLanes (map (to_z w64) l.r0);
  lanes_1 : AreLanes (map (to_z w64) l.r1);
  lanes_2 : AreLanes (map (to_z w64) l.r2);
  lanes_3 : AreLanes (map (to_z w64) l.r3);
  rows_0 : (r : ℕ) → r < 4 → value_in (map (to_z w64) l.r0) r
      ≡ wrap (dot (lane 16 l.a r) (value_in l.b) l.q);
  rows_1 : (r : ℕ) → r < 4 → value_in (map (to_z w64) l.r1) r
      ≡ wrap (dot (lane 16 l.a (4 + r)) (value_in l.b) l.q);
  rows_2 : (r : ℕ) → r < 4 → value_in (map (to_z w64) l.r2) r
      ≡ wrap (dot (lane 16 l.a (8 + r)) (value_in l.b) l.q);
  rows_3 : (r : ℕ) → r < 4 → value_in (map (to_z w64) l.r3) r
      ≡ wrap (dot (lane 16 l.a (12 + r)) (value_in l.b) l.q);
}
