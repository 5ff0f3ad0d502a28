use Rattle.std.proofs.Common.{ℕ, ℤ, ◌*ℤ◌, map, to_z}
use Rattle.std.specs.Int.{w64}
use Rattle.tensor_values.specs.Values.{value_in}
use Rattle.tensor_kernels.specs.private.Pairs.{lane}
use Rattle.tensor_dots.proofs.LaneSums.{same-factors, next_lane}
use Rattle.tensor_dots.proofs.SimdLanes.{lanes-bits}
use Rattle.tensor_kernels.proofs.tiling.small.small_four.Goals as goal

pub add_product-lanes-requires-clause-x : goal.add_product-lanes-requires-clause-x
add_product-lanes-requires-clause-x c = lanes-bits _ c.four_from.ensures.lanes

pub add_product-lanes-requires-clause-y : goal.add_product-lanes-requires-clause-y
add_product-lanes-requires-clause-y c = lanes-bits _ c.spread_small.ensures.lanes

pub loop-q-preserved : goal.loop-q-preserved
loop-q-preserved c =
    let f : ℕ → ℕ → ℤ = λ r q. lane 4 c.args.a.now r q *ℤ value_in c.args.b.now q in
    let x = c.four_from in
    let y = c.spread_small in
    let more = c.add_product-lanes in
    record {
      lanes = lanes-bits _ more.ensures.lanes;
      rows = λ r h. next_lane (f r) (map (to_z w64) c.loop-q.lanes) x.result y.result more.result r
          c.loop-q.q h x.ensures.lanes y.ensures.lanes more.ensures.lanes
          (c.loop-q.invariant.rows r h)
          (same-factors (x.ensures.each r h) (y.ensures.each r h)) (more.ensures.each r h);
    }
