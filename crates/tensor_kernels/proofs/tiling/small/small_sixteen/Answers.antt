use Rattle.std.proofs.Common.{◌≡◌, ℕ, ◌+◌, ◌*◌, ℤ, ◌*ℤ◌, map, to_z, ap, ◌∙◌, arith, le_antisymm}
use Rattle.std.specs.Int.{w64}
use Rattle.tensor_values.specs.Values.{value_in}
use Rattle.tensor_shape.specs.Wrap.{wrap}
use Rattle.tensor_kernels.specs.private.Pairs.{lane}
use Rattle.tensor_dots.specs.Products.{dot}
use Rattle.tensor_dots.proofs.LaneSums.{same-factors, next_lane, by_fours_here}
use Rattle.tensor_dots.proofs.SimdLanes.{lanes-bits}
use Rattle.tensor_kernels.proofs.tiling.small.small_sixteen.Goals as goal

-- the place of row k + r
place : (q k r : ℕ) → 16 * q + k + r ≡ 16 * q + (k + r)
place q k r = omega arith

pub add_product-r0-requires-clause-x : goal.add_product-r0-requires-clause-x
add_product-r0-requires-clause-x c = lanes-bits _ c.four_from.ensures.lanes

pub add_product-r0-requires-clause-y : goal.add_product-r0-requires-clause-y
add_product-r0-requires-clause-y c = lanes-bits _ c.spread_small-y.ensures.lanes

pub add_product-r1-requires-clause-x : goal.add_product-r1-requires-clause-x
add_product-r1-requires-clause-x c = lanes-bits _ c.four_from-in-loop-q.ensures.lanes

pub add_product-r1-requires-clause-y : goal.add_product-r1-requires-clause-y
add_product-r1-requires-clause-y c = lanes-bits _ c.spread_small-y.ensures.lanes

pub add_product-r2-requires-clause-x : goal.add_product-r2-requires-clause-x
add_product-r2-requires-clause-x c = lanes-bits _ c.four_from-in-loop-q-2.ensures.lanes

pub add_product-r2-requires-clause-y : goal.add_product-r2-requires-clause-y
add_product-r2-requires-clause-y c = lanes-bits _ c.spread_small-y.ensures.lanes

pub add_product-r3-requires-clause-x : goal.add_product-r3-requires-clause-x
add_product-r3-requires-clause-x c = lanes-bits _ c.four_from-in-loop-q-3.ensures.lanes

pub add_product-r3-requires-clause-y : goal.add_product-r3-requires-clause-y
add_product-r3-requires-clause-y c = lanes-bits _ c.spread_small-y.ensures.lanes

pub loop-q-preserved : goal.loop-q-preserved
loop-q-preserved c =
    let q = c.loop-q.q in
    let a = c.args.a.now in
    let b = c.args.b.now in
    let f : ℕ → ℕ → ℤ = λ t q. lane 16 a t q *ℤ value_in b q in
    let y = c.spread_small-y in
    record {
      lanes_0 = lanes-bits _ c.add_product-r0.ensures.lanes;
      lanes_1 = lanes-bits _ c.add_product-r1.ensures.lanes;
      lanes_2 = lanes-bits _ c.add_product-r2.ensures.lanes;
      lanes_3 = lanes-bits _ c.add_product-r3.ensures.lanes;
      rows_0 = λ r h.
          let x = c.four_from in
          let more = c.add_product-r0 in
          next_lane (f r) (map (to_z w64) c.loop-q.r0) x.result y.result more.result r q h
          x.ensures.lanes y.ensures.lanes more.ensures.lanes (c.loop-q.invariant.rows_0 r h)
          (same-factors (x.ensures.each r h) (y.ensures.each r h))
          (more.ensures.each r h);
      rows_1 = λ r h.
          let x = c.four_from-in-loop-q in
          let more = c.add_product-r1 in
          next_lane (f (4 + r)) (map (to_z w64) c.loop-q.r1) x.result y.result more.result r q h
          x.ensures.lanes y.ensures.lanes more.ensures.lanes (c.loop-q.invariant.rows_1 r h)
          (same-factors (x.ensures.each r h ∙ ap (value_in a) (place q 4 r)) (y.ensures.each r h))
          (more.ensures.each r h);
      rows_2 = λ r h.
          let x = c.four_from-in-loop-q-2 in
          let more = c.add_product-r2 in
          next_lane (f (8 + r)) (map (to_z w64) c.loop-q.r2) x.result y.result more.result r q h
          x.ensures.lanes y.ensures.lanes more.ensures.lanes (c.loop-q.invariant.rows_2 r h)
          (same-factors (x.ensures.each r h ∙ ap (value_in a) (place q 8 r)) (y.ensures.each r h))
          (more.ensures.each r h);
      rows_3 = λ r h.
          let x = c.four_from-in-loop-q-3 in
          let more = c.add_product-r3 in
          next_lane (f (12 + r)) (map (to_z w64) c.loop-q.r3) x.result y.result more.result r q h
          x.ensures.lanes y.ensures.lanes more.ensures.lanes (c.loop-q.invariant.rows_3 r h)
          (same-factors (x.ensures.each r h ∙ ap (value_in a) (place q 12 r)) (y.ensures.each r h))
          (more.ensures.each r h);
    }

pub returns : goal.returns
returns c t h =
    let sum = λ (n t : ℕ). wrap (dot (lane 16 c.args.a.now t) (value_in c.args.b.now) n) in
    let l = c.loop-q.invariant in
    let whole = le_antisymm c.loop-q.auto.q-end c.loop-q-test.false in
    by_fours_here (sum c.loop-q.q) c.store.new.sums c.store-2.new.sums c.store-3.new.sums
    c.store-4.new.sums
    (λ r h. c.store.ensures.stored r h ∙ l.rows_0 r h)
    (λ r h. c.store-2.ensures.stored r h ∙ l.rows_1 r h)
    (λ r h. c.store-3.ensures.stored r h ∙ l.rows_2 r h)
    (λ r h. c.store-4.ensures.stored r h ∙ l.rows_3 r h)
    c.store-2.ensures.kept c.store-3.ensures.kept c.store-4.ensures.kept t h
    ∙ ap (λ n. sum n t) whole
