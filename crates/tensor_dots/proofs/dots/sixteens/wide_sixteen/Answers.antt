use Rattle.std.proofs.Common.{ℕ, ◌+◌, slice_index, map, to_z, ap, ◌∙◌, le_antisymm}
use Rattle.std.specs.Int.{w64}
use Rattle.tensor_values.specs.Values.{value_in}
use Rattle.tensor_dots.specs.private.RowPairs.{pair_product, pair_sum}
use Rattle.tensor_shape.specs.Wrap.{wrap}
use Rattle.tensor_dots.proofs.LaneSums.{behind, swapped, same-factors, next_joined, by_fours}
use Rattle.tensor_dots.proofs.SimdLanes.{lanes-bits}
use Rattle.tensor_dots.proofs.dots.sixteens.wide_sixteen.Goals as goal

pub add_products-first-requires-clause-x : goal.add_products-first-requires-clause-x
add_products-first-requires-clause-x c = lanes-bits _ c.rows_from.ensures.lanes

pub add_products-first-requires-clause-y : goal.add_products-first-requires-clause-y
add_products-first-requires-clause-y c = lanes-bits _ c.spread-factor.ensures.lanes

pub add_products-second-requires-clause-x : goal.add_products-second-requires-clause-x
add_products-second-requires-clause-x c = lanes-bits _ c.rows_from-in-loop-q.ensures.lanes

pub add_products-second-requires-clause-y : goal.add_products-second-requires-clause-y
add_products-second-requires-clause-y c = lanes-bits _ c.spread-factor.ensures.lanes

pub add_products-third-requires-clause-x : goal.add_products-third-requires-clause-x
add_products-third-requires-clause-x c = lanes-bits _ c.rows_from-in-loop-q-2.ensures.lanes

pub add_products-third-requires-clause-y : goal.add_products-third-requires-clause-y
add_products-third-requires-clause-y c = lanes-bits _ c.spread-factor.ensures.lanes

pub add_products-fourth-requires-clause-x : goal.add_products-fourth-requires-clause-x
add_products-fourth-requires-clause-x c = lanes-bits _ c.rows_from-in-loop-q-3.ensures.lanes

pub add_products-fourth-requires-clause-y : goal.add_products-fourth-requires-clause-y
add_products-fourth-requires-clause-y c = lanes-bits _ c.spread-factor.ensures.lanes

pub loop-q-preserved : goal.loop-q-preserved
loop-q-preserved c =
    let q = c.loop-q.q in
    let pair = c.args.pair.now in
    let k = c.args.k in
    let a = pair.first.values.now in
    let offset : ℕ = slice_index pair.first.offsets.now q in
    let factor = c.spread-factor.ensures in
    record {
      lanes_0 = lanes-bits _ c.add_products-first.ensures.low;
      lanes_1 = lanes-bits _ c.add_products-second.ensures.low;
      lanes_2 = lanes-bits _ c.add_products-third.ensures.low;
      lanes_3 = lanes-bits _ c.add_products-fourth.ensures.low;
      words_0 = c.add_products-first.ensures.crossed;
      words_1 = c.add_products-second.ensures.crossed;
      words_2 = c.add_products-third.ensures.crossed;
      words_3 = c.add_products-fourth.ensures.crossed;
      rows_0 = λ r h.
          let here = behind pair.first.start offset k r in
          let left = c.rows_from.ensures.each r h ∙ ap (value_in a) here in
          let right = factor.each r h in
          next_joined (pair_product pair (k + r)) (map (to_z w64) c.loop-q.l0) c.rows_from.result
          c.spread-factor.result c.add_products-first.result.0 c.loop-q.c0
          c.add_products-first.result.1 r q h c.rows_from.ensures.lanes factor.lanes
          c.add_products-first.ensures.low (c.loop-q.invariant.rows_0 r h)
          (same-factors left right) (c.add_products-first.ensures.each r h);
      rows_1 = λ r h.
          let here = swapped pair.first.start offset k 4 r in
          let left = c.rows_from-in-loop-q.ensures.each r h ∙ ap (value_in a) here in
          let right = factor.each r h in
          next_joined (pair_product pair (k + 4 + r)) (map (to_z w64) c.loop-q.l1) c.rows_from-in-loop-q.result
          c.spread-factor.result c.add_products-second.result.0 c.loop-q.c1
          c.add_products-second.result.1 r q h c.rows_from-in-loop-q.ensures.lanes factor.lanes
          c.add_products-second.ensures.low (c.loop-q.invariant.rows_1 r h)
          (same-factors left right) (c.add_products-second.ensures.each r h);
      rows_2 = λ r h.
          let here = swapped pair.first.start offset k 8 r in
          let left = c.rows_from-in-loop-q-2.ensures.each r h ∙ ap (value_in a) here in
          let right = factor.each r h in
          next_joined (pair_product pair (k + 8 + r)) (map (to_z w64) c.loop-q.l2) c.rows_from-in-loop-q-2.result
          c.spread-factor.result c.add_products-third.result.0 c.loop-q.c2
          c.add_products-third.result.1 r q h c.rows_from-in-loop-q-2.ensures.lanes factor.lanes
          c.add_products-third.ensures.low (c.loop-q.invariant.rows_2 r h)
          (same-factors left right) (c.add_products-third.ensures.each r h);
      rows_3 = λ r h.
          let here = swapped pair.first.start offset k 12 r in
          let left = c.rows_from-in-loop-q-3.ensures.each r h ∙ ap (value_in a) here in
          let right = factor.each r h in
          next_joined (pair_product pair (k + 12 + r)) (map (to_z w64) c.loop-q.l3) c.rows_from-in-loop-q-3.result
          c.spread-factor.result c.add_products-fourth.result.0 c.loop-q.c3
          c.add_products-fourth.result.1 r q h c.rows_from-in-loop-q-3.ensures.lanes factor.lanes
          c.add_products-fourth.ensures.low (c.loop-q.invariant.rows_3 r h)
          (same-factors left right) (c.add_products-fourth.ensures.each r h);
    }

pub returns : goal.returns
returns c t h =
    let sum = λ (n k : ℕ). wrap (pair_sum c.args.pair.now k n) in
    let l = c.loop-q.invariant in
    let whole = le_antisymm c.loop-q.auto.q-end c.loop-q-test.false in
    by_fours (sum c.loop-q.q) c.args.k c.store.new.sums c.store-2.new.sums c.store-3.new.sums
    c.store-4.new.sums
    (λ r h. c.store.ensures.stored r h ∙ l.rows_0 r h)
    (λ r h. c.store-2.ensures.stored r h ∙ l.rows_1 r h)
    (λ r h. c.store-3.ensures.stored r h ∙ l.rows_2 r h)
    (λ r h. c.store-4.ensures.stored r h ∙ l.rows_3 r h)
    c.store-2.ensures.kept c.store-3.ensures.kept c.store-4.ensures.kept t h
    ∙ ap (λ n. sum n (c.args.k + t)) whole
