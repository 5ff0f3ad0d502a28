use Rattle.std.proofs.Common.{◌≡◌, ℕ, ◌+◌, ◌*◌, ◌+ℤ◌, map, to_z, ap, ◌∙◌, arith, le_antisymm, zero-add}
use Rattle.std.specs.Int.{w64}
use Rattle.tensor_values.specs.Values.{value_in}
use Rattle.tensor_shape.specs.Wrap.{wrap}
use Rattle.tensor_kernels.specs.private.Pairs.{lane, own_pairs, pairs_dot, without_own}
use Rattle.tensor_dots.specs.Products.{dot}
use Rattle.tensor_dots.proofs.LaneSums.{by_fours_here}
use Rattle.tensor_kernels.proofs.PairLanes.{next_pair, none_joined, none_words}
use Rattle.tensor_kernels.proofs.PairProducts.{pairs-split, wrap-rest}
use Rattle.tensor_dots.proofs.SimdLanes.{lanes-bits}
use Rattle.tensor_kernels.proofs.tiling.pairs.pairs_of_sixteen.Goals as goal

-- the places of a pair of row k + r
first : (q k r : ℕ) → 32 * q + k + r ≡ 16 * (2 * q) + (k + r)
first q k r = omega arith

second : (q k r : ℕ) → 32 * q + (k + 16) + r ≡ 16 * (2 * q + 1) + (k + r)
second q k r = omega arith

pub add_pair-first-requires-clause-x : goal.add_pair-first-requires-clause-x
add_pair-first-requires-clause-x c = lanes-bits _ c.rows_from.ensures.lanes

pub add_pair-first-requires-clause-y : goal.add_pair-first-requires-clause-y
add_pair-first-requires-clause-y c = lanes-bits _ c.rows_from-in-loop-q.ensures.lanes

pub add_pair-second-requires-clause-x : goal.add_pair-second-requires-clause-x
add_pair-second-requires-clause-x c = lanes-bits _ c.rows_from-in-loop-q-2.ensures.lanes

pub add_pair-second-requires-clause-y : goal.add_pair-second-requires-clause-y
add_pair-second-requires-clause-y c = lanes-bits _ c.rows_from-in-loop-q-3.ensures.lanes

pub add_pair-third-requires-clause-x : goal.add_pair-third-requires-clause-x
add_pair-third-requires-clause-x c = lanes-bits _ c.rows_from-in-loop-q-4.ensures.lanes

pub add_pair-third-requires-clause-y : goal.add_pair-third-requires-clause-y
add_pair-third-requires-clause-y c = lanes-bits _ c.rows_from-in-loop-q-5.ensures.lanes

pub add_pair-fourth-requires-clause-x : goal.add_pair-fourth-requires-clause-x
add_pair-fourth-requires-clause-x c = lanes-bits _ c.rows_from-in-loop-q-6.ensures.lanes

pub add_pair-fourth-requires-clause-y : goal.add_pair-fourth-requires-clause-y
add_pair-fourth-requires-clause-y c = lanes-bits _ c.rows_from-in-loop-q-7.ensures.lanes

pub loop-q-init : goal.loop-q-init
loop-q-init c =
    let z = without_own c.args.rows.sums.now c.args.column.sums.now in
    let l0 = c.without_own-l0.ensures in
    let l1 = c.without_own-l1.ensures in
    let l2 = c.without_own-l2.ensures in
    let l3 = c.without_own-l3.ensures in
    record {
      lanes_0 = lanes-bits _ l0.lanes;
      lanes_1 = lanes-bits _ l1.lanes;
      lanes_2 = lanes-bits _ l2.lanes;
      lanes_3 = lanes-bits _ l3.lanes;
      words_0 = none_words;
      words_1 = none_words;
      words_2 = none_words;
      words_3 = none_words;
      rows_0 = λ r h. none_joined (z r) _ r l0.lanes h (l0.each r h ∙ ap (λ t. wrap (z t)) (zero-add r));
      rows_1 = λ r h. none_joined (z (4 + r)) _ r l1.lanes h (l1.each r h);
      rows_2 = λ r h. none_joined (z (8 + r)) _ r l2.lanes h (l2.each r h);
      rows_3 = λ r h. none_joined (z (12 + r)) _ r l3.lanes h (l3.each r h);
    }

pub loop-q-preserved : goal.loop-q-preserved
loop-q-preserved c =
    let q = c.loop-q.q in
    let a = c.args.rows.cells.now in
    let b = c.args.column.cells.now in
    let z = without_own c.args.rows.sums.now c.args.column.sums.now in
    record {
      lanes_0 = lanes-bits _ c.add_pair-first.ensures.low;
      lanes_1 = lanes-bits _ c.add_pair-second.ensures.low;
      lanes_2 = lanes-bits _ c.add_pair-third.ensures.low;
      lanes_3 = lanes-bits _ c.add_pair-fourth.ensures.low;
      words_0 = c.add_pair-first.ensures.crossed;
      words_1 = c.add_pair-second.ensures.crossed;
      words_2 = c.add_pair-third.ensures.crossed;
      words_3 = c.add_pair-fourth.ensures.crossed;
      rows_0 = λ r h.
          let x = c.rows_from in
          let y = c.rows_from-in-loop-q in
          let more = c.add_pair-first in
          let here : 32 * q + r ≡ 16 * (2 * q) + r = omega arith in
          let there : 32 * q + 16 + r ≡ 16 * (2 * q + 1) + r = omega arith in
          next_pair (z r) (lane 16 a r) (value_in b) (map (to_z w64) c.loop-q.l0) x.result y.result
          more.result.0 c.loop-q.c0 more.result.1 r q h x.ensures.lanes y.ensures.lanes
          more.ensures.low (c.loop-q.invariant.rows_0 r h)
          (x.ensures.each r h ∙ ap (value_in a) here) (y.ensures.each r h ∙ ap (value_in a) there)
          (more.ensures.each r h);
      rows_1 = λ r h.
          let x = c.rows_from-in-loop-q-2 in
          let y = c.rows_from-in-loop-q-3 in
          let more = c.add_pair-second in
          let here = first q 4 r in
          let there = second q 4 r in
          next_pair (z (4 + r)) (lane 16 a (4 + r)) (value_in b) (map (to_z w64) c.loop-q.l1) x.result y.result
          more.result.0 c.loop-q.c1 more.result.1 r q h x.ensures.lanes y.ensures.lanes
          more.ensures.low (c.loop-q.invariant.rows_1 r h)
          (x.ensures.each r h ∙ ap (value_in a) here) (y.ensures.each r h ∙ ap (value_in a) there)
          (more.ensures.each r h);
      rows_2 = λ r h.
          let x = c.rows_from-in-loop-q-4 in
          let y = c.rows_from-in-loop-q-5 in
          let more = c.add_pair-third in
          let here = first q 8 r in
          let there = second q 8 r in
          next_pair (z (8 + r)) (lane 16 a (8 + r)) (value_in b) (map (to_z w64) c.loop-q.l2) x.result y.result
          more.result.0 c.loop-q.c2 more.result.1 r q h x.ensures.lanes y.ensures.lanes
          more.ensures.low (c.loop-q.invariant.rows_2 r h)
          (x.ensures.each r h ∙ ap (value_in a) here) (y.ensures.each r h ∙ ap (value_in a) there)
          (more.ensures.each r h);
      rows_3 = λ r h.
          let x = c.rows_from-in-loop-q-6 in
          let y = c.rows_from-in-loop-q-7 in
          let more = c.add_pair-fourth in
          let here = first q 12 r in
          let there = second q 12 r in
          next_pair (z (12 + r)) (lane 16 a (12 + r)) (value_in b) (map (to_z w64) c.loop-q.l3) x.result y.result
          more.result.0 c.loop-q.c3 more.result.1 r q h x.ensures.lanes y.ensures.lanes
          more.ensures.low (c.loop-q.invariant.rows_3 r h)
          (x.ensures.each r h ∙ ap (value_in a) here) (y.ensures.each r h ∙ ap (value_in a) there)
          (more.ensures.each r h);
    }

pub returns-clause-each : goal.returns-clause-each
returns-clause-each c t h =
    let f = lane 16 c.args.rows.cells.now in
    let g = value_in c.args.column.cells.now in
    let z = without_own c.args.rows.sums.now c.args.column.sums.now in
    let sum = λ (n t : ℕ). wrap (z t +ℤ pairs_dot (f t) g n) in
    let n = c.args.n in
    let l = c.loop-q.invariant in
    let whole = le_antisymm c.loop-q.auto.q-end c.loop-q-test.false in
    by_fours_here (sum c.loop-q.q) c.store.new.sums c.store-2.new.sums c.store-3.new.sums
    c.store-4.new.sums
    (λ r h. c.store.ensures.stored r h ∙ l.rows_0 r h)
    (λ r h. c.store-2.ensures.stored r h ∙ l.rows_1 r h)
    (λ r h. c.store-3.ensures.stored r h ∙ l.rows_2 r h)
    (λ r h. c.store-4.ensures.stored r h ∙ l.rows_3 r h)
    c.store-2.ensures.kept c.store-3.ensures.kept c.store-4.ensures.kept t h
    ∙ ap (λ n. sum n t) whole
    ∙ wrap-rest (pairs_dot (f t) g n) (dot (f t) g (n * 2)) (own_pairs (f t) n) (own_pairs g n)
    (value_in c.args.rows.sums.now t) (value_in c.args.column.sums.now 0)
    (pairs-split (f t) g n) (c.requires.rows t h) c.requires.column
