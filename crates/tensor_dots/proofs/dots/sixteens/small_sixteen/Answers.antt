use Rattle.std.proofs.Common.{ℕ, ◌+◌, slice_index, map, to_z, ap, ◌∙◌, le_antisymm}
use Rattle.std.specs.Int.{w64}
use Rattle.tensor_values.specs.Values.{value_in}
use Rattle.tensor_dots.specs.private.RowPairs.{pair_product, pair_sum}
use Rattle.tensor_shape.specs.Wrap.{wrap}
use Rattle.tensor_dots.proofs.LaneSums.{behind, swapped, same-factors, next_lane, by_fours}
use Rattle.tensor_dots.proofs.SimdLanes.{lanes-bits}
use Rattle.tensor_dots.proofs.dots.sixteens.small_sixteen.Goals as goal

pub add_product-c0-requires-clause-x : goal.add_product-c0-requires-clause-x
add_product-c0-requires-clause-x c = lanes-bits _ c.four_from.ensures.lanes

pub add_product-c0-requires-clause-y : goal.add_product-c0-requires-clause-y
add_product-c0-requires-clause-y c = lanes-bits _ c.spread_from-factor.ensures.lanes

pub add_product-c1-requires-clause-x : goal.add_product-c1-requires-clause-x
add_product-c1-requires-clause-x c = lanes-bits _ c.four_from-in-loop-q.ensures.lanes

pub add_product-c1-requires-clause-y : goal.add_product-c1-requires-clause-y
add_product-c1-requires-clause-y c = lanes-bits _ c.spread_from-factor.ensures.lanes

pub add_product-c2-requires-clause-x : goal.add_product-c2-requires-clause-x
add_product-c2-requires-clause-x c = lanes-bits _ c.four_from-in-loop-q-2.ensures.lanes

pub add_product-c2-requires-clause-y : goal.add_product-c2-requires-clause-y
add_product-c2-requires-clause-y c = lanes-bits _ c.spread_from-factor.ensures.lanes

pub add_product-c3-requires-clause-x : goal.add_product-c3-requires-clause-x
add_product-c3-requires-clause-x c = lanes-bits _ c.four_from-in-loop-q-3.ensures.lanes

pub add_product-c3-requires-clause-y : goal.add_product-c3-requires-clause-y
add_product-c3-requires-clause-y c = lanes-bits _ c.spread_from-factor.ensures.lanes

pub loop-q-preserved : goal.loop-q-preserved
loop-q-preserved c =
    let q = c.loop-q.q in
    let pair = c.args.pair.now in
    let k = c.args.k in
    let a = pair.first.values.now in
    let offset : ℕ = slice_index pair.first.offsets.now q in
    let factor = c.spread_from-factor.ensures in
    record {
      lanes_0 = lanes-bits _ c.add_product-c0.ensures.lanes;
      lanes_1 = lanes-bits _ c.add_product-c1.ensures.lanes;
      lanes_2 = lanes-bits _ c.add_product-c2.ensures.lanes;
      lanes_3 = lanes-bits _ c.add_product-c3.ensures.lanes;
      rows_0 = λ r h.
          let here = behind pair.first.start offset k r in
          let left = c.four_from.ensures.each r h ∙ ap (value_in a) here in
          let right = factor.each r h in
          next_lane (pair_product pair (k + r)) (map (to_z w64) c.loop-q.c0) c.four_from.result
          c.spread_from-factor.result c.add_product-c0.result r q h c.four_from.ensures.lanes
          factor.lanes c.add_product-c0.ensures.lanes (c.loop-q.invariant.rows_0 r h)
          (same-factors left right) (c.add_product-c0.ensures.each r h);
      rows_1 = λ r h.
          let here = swapped pair.first.start offset k 4 r in
          let left = c.four_from-in-loop-q.ensures.each r h ∙ ap (value_in a) here in
          let right = factor.each r h in
          next_lane (pair_product pair (k + 4 + r)) (map (to_z w64) c.loop-q.c1) c.four_from-in-loop-q.result
          c.spread_from-factor.result c.add_product-c1.result r q h c.four_from-in-loop-q.ensures.lanes
          factor.lanes c.add_product-c1.ensures.lanes (c.loop-q.invariant.rows_1 r h)
          (same-factors left right) (c.add_product-c1.ensures.each r h);
      rows_2 = λ r h.
          let here = swapped pair.first.start offset k 8 r in
          let left = c.four_from-in-loop-q-2.ensures.each r h ∙ ap (value_in a) here in
          let right = factor.each r h in
          next_lane (pair_product pair (k + 8 + r)) (map (to_z w64) c.loop-q.c2) c.four_from-in-loop-q-2.result
          c.spread_from-factor.result c.add_product-c2.result r q h c.four_from-in-loop-q-2.ensures.lanes
          factor.lanes c.add_product-c2.ensures.lanes (c.loop-q.invariant.rows_2 r h)
          (same-factors left right) (c.add_product-c2.ensures.each r h);
      rows_3 = λ r h.
          let here = swapped pair.first.start offset k 12 r in
          let left = c.four_from-in-loop-q-3.ensures.each r h ∙ ap (value_in a) here in
          let right = factor.each r h in
          next_lane (pair_product pair (k + 12 + r)) (map (to_z w64) c.loop-q.c3) c.four_from-in-loop-q-3.result
          c.spread_from-factor.result c.add_product-c3.result r q h c.four_from-in-loop-q-3.ensures.lanes
          factor.lanes c.add_product-c3.ensures.lanes (c.loop-q.invariant.rows_3 r h)
          (same-factors left right) (c.add_product-c3.ensures.each r h);
    }

pub returns : goal.returns
returns c t h =
    let sum = λ (n k : ℕ). wrap (pair_sum c.args.pair.now k n) in
    let l = c.loop-q.invariant in
    let whole = le_antisymm c.loop-q.auto.q-end c.loop-q-test.false in
    by_fours (sum c.loop-q.q) c.args.k c.store.new.sums c.store-2.new.sums c.store-3.new.sums
    c.store-4.new.sums
    (λ r h. c.store.ensures.stored r h ∙ l.rows_0 r h)
    (λ r h. c.store-2.ensures.stored r h ∙ l.rows_1 r h)
    (λ r h. c.store-3.ensures.stored r h ∙ l.rows_2 r h)
    (λ r h. c.store-4.ensures.stored r h ∙ l.rows_3 r h)
    c.store-2.ensures.kept c.store-3.ensures.kept c.store-4.ensures.kept t h
    ∙ ap (λ n. sum n (c.args.k + t)) whole
