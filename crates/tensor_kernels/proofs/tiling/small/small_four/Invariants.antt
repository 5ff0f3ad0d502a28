-- The sums of the first q products.
use Rattle.std.proofs.Common.{◌≡◌, ℕ, ◌<◌, map, to_z}
use Rattle.std.specs.Int.{w64}
use Rattle.tensor_values.specs.Values.{value_in}
use Rattle.tensor_shape.specs.Wrap.{wrap}
use Rattle.tensor_kernels.specs.private.Pairs.{lane}
use Rattle.tensor_dots.specs.Lanes.{AreLanes}
use Rattle.tensor_dots.specs.Products.{dot}
use Rattle.tensor_kernels.proofs.tiling.small.small_four.Given as goal

abbrev pub invariant-loop-q : goal.invariant-loop-q
invariant-loop-q l = record {
  lanes : AreLanes (map (to_z w64) l.lanes);
  rows : (r : ℕ) → r < 4 → value_in (map (to_z w64) l.lanes) r
      ≡ wrap (dot (lane 4 l.a r) (value_in l.b) l.q);
}
