use Rattle.std.proofs.Common.{◌≡◌, ◌+◌, ◌*◌, ◌+ℤ◌, map, to_z, ap, sym, ◌∙◌, arith, le_antisymm, zero-add}
use Rattle.std.specs.Int.{w64}
use Rattle.tensor_values.specs.Values.{value_in}
use Rattle.tensor_shape.specs.Wrap.{wrap}
use Rattle.tensor_kernels.specs.private.Pairs.{lane, own_pairs, pairs_dot, without_own}
use Rattle.tensor_dots.specs.Products.{dot}
use Rattle.tensor_kernels.proofs.PairLanes.{next_pair, none_joined, none_words}
use Rattle.tensor_kernels.proofs.PairProducts.{pairs-split, wrap-rest}
use Rattle.tensor_dots.proofs.SimdLanes.{lanes-bits}
use Rattle.tensor_kernels.proofs.tiling.pairs.pairs_of_four.Goals as goal

pub add_pair-requires-clause-x : goal.add_pair-requires-clause-x
add_pair-requires-clause-x c = lanes-bits _ c.rows_from-x.ensures.lanes

pub add_pair-requires-clause-y : goal.add_pair-requires-clause-y
add_pair-requires-clause-y c = lanes-bits _ c.rows_from-y.ensures.lanes

pub loop-q-init : goal.loop-q-init
loop-q-init c =
    let z = without_own c.args.rows.sums.now c.args.column.sums.now in
    let low = c.without_own-low.ensures in
    record {
      lanes = lanes-bits _ low.lanes;
      words = none_words;
      rows = λ r h. none_joined (z r) _ r low.lanes h (low.each r h ∙ ap (λ t. wrap (z t)) (zero-add r));
    }

pub loop-q-preserved : goal.loop-q-preserved
loop-q-preserved c =
    let q = c.loop-q.q in
    let a = c.args.rows.cells.now in
    let z = without_own c.args.rows.sums.now c.args.column.sums.now in
    let x = c.rows_from-x in
    let y = c.rows_from-y in
    let more = c.add_pair in
    record {
      lanes = lanes-bits _ more.ensures.low;
      words = more.ensures.crossed;
      rows = λ r h.
          let here : 8 * q + r ≡ 4 * (2 * q) + r = omega arith in
          let there : 8 * q + 4 + r ≡ 4 * (2 * q + 1) + r = omega arith in
          next_pair (z r) (lane 4 a r) (value_in c.args.column.cells.now) (map (to_z w64) c.loop-q.low) x.result
          y.result more.result.0 c.loop-q.words more.result.1 r q h x.ensures.lanes
          y.ensures.lanes more.ensures.low (c.loop-q.invariant.rows r h)
          (x.ensures.each r h ∙ ap (value_in a) here) (y.ensures.each r h ∙ ap (value_in a) there)
          (more.ensures.each r h);
    }

pub returns-clause-each : goal.returns-clause-each
returns-clause-each c t h =
    let f = lane 4 c.args.rows.cells.now t in
    let g = value_in c.args.column.cells.now in
    let z = without_own c.args.rows.sums.now c.args.column.sums.now t in
    let n = c.args.n in
    let whole = le_antisymm c.loop-q.auto.q-end c.loop-q-test.false in
    ap (value_in c.store.new.sums) (sym (zero-add t))
    ∙ c.store.ensures.stored t h
    ∙ c.loop-q.invariant.rows t h
    ∙ ap (λ n. wrap (z +ℤ pairs_dot f g n)) whole
    ∙ wrap-rest (pairs_dot f g n) (dot f g (n * 2)) (own_pairs f n) (own_pairs g n)
    (value_in c.args.rows.sums.now t) (value_in c.args.column.sums.now 0)
    (pairs-split f g n) (c.requires.rows t h) c.requires.column
