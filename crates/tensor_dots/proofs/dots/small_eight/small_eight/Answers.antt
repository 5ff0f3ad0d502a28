use Rattle.std.proofs.Common.{ℕ, ◌+◌, slice_index, map, to_z, ap, ◌∙◌}
use Rattle.std.specs.Int.{w64}
use Rattle.tensor_values.specs.Values.{value_in}
use Rattle.tensor_dots.specs.private.RowPairs.{pair_product}
use Rattle.tensor_dots.proofs.LaneSums.{behind, swapped, same-factors, next_lane}
use Rattle.tensor_dots.proofs.SimdLanes.{lanes-bits}
use Rattle.tensor_dots.proofs.dots.small_eight.small_eight.Goals as goal

pub add_product-low-requires-clause-x : goal.add_product-low-requires-clause-x
add_product-low-requires-clause-x c = lanes-bits _ c.four_from.ensures.lanes

pub add_product-low-requires-clause-y : goal.add_product-low-requires-clause-y
add_product-low-requires-clause-y c = lanes-bits _ c.spread_from-factor.ensures.lanes

pub add_product-high-requires-clause-x : goal.add_product-high-requires-clause-x
add_product-high-requires-clause-x c = lanes-bits _ c.four_from-in-loop-q.ensures.lanes

pub add_product-high-requires-clause-y : goal.add_product-high-requires-clause-y
add_product-high-requires-clause-y c = lanes-bits _ c.spread_from-factor.ensures.lanes

pub loop-q-preserved : goal.loop-q-preserved
loop-q-preserved c =
    let q = c.loop-q.q in
    let pair = c.args.pair.now in
    let k = c.args.k in
    let a = pair.first.values.now in
    let offset : ℕ = slice_index pair.first.offsets.now q in
    let factor = c.spread_from-factor.ensures in
    record {
      lanes_low = lanes-bits _ c.add_product-low.ensures.lanes;
      lanes_high = lanes-bits _ c.add_product-high.ensures.lanes;
      low = λ r h.
          let here = behind pair.first.start offset k r in
          let left = c.four_from.ensures.each r h ∙ ap (value_in a) here in
          let right = factor.each r h in
          next_lane (pair_product pair (k + r)) (map (to_z w64) c.loop-q.low) c.four_from.result
          c.spread_from-factor.result c.add_product-low.result r q h c.four_from.ensures.lanes
          factor.lanes c.add_product-low.ensures.lanes (c.loop-q.invariant.low r h) (same-factors left right)
          (c.add_product-low.ensures.each r h);
      high = λ r h.
          let here = swapped pair.first.start offset k 4 r in
          let left = c.four_from-in-loop-q.ensures.each r h ∙ ap (value_in a) here in
          let right = factor.each r h in
          next_lane (pair_product pair (k + 4 + r)) (map (to_z w64) c.loop-q.high)
          c.four_from-in-loop-q.result c.spread_from-factor.result c.add_product-high.result r q h
          c.four_from-in-loop-q.ensures.lanes factor.lanes c.add_product-high.ensures.lanes
          (c.loop-q.invariant.high r h) (same-factors left right) (c.add_product-high.ensures.each r h);
    }
