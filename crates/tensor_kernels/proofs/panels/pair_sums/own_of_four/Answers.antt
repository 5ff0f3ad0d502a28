use Rattle.std.proofs.Common.{◌≡◌, ◌+◌, ◌*◌, ◌*ℤ◌, map, to_z, ap, sym, ◌∙◌, arith, le_antisymm}
use Rattle.std.proofs.Common.{zero-add, mul-le-mul_right}
use Rattle.std.specs.Int.{w64}
use Rattle.tensor_shape.specs.Wrap.{wrap}
use Rattle.tensor_values.specs.Values.{value_in}
use Rattle.tensor_kernels.specs.private.Pairs.{own_pairs, lane}
use Rattle.tensor_dots.proofs.LaneSums.{next_joined, same-factors}
use Rattle.tensor_dots.proofs.SimdLanes.{lanes-bits}
use Rattle.tensor_kernels.proofs.panels.pair_sums.own_of_four.Goals as goal

pub add_products-requires-clause-x : goal.add_products-requires-clause-x
add_products-requires-clause-x c = lanes-bits _ c.rows_from-x.ensures.lanes

pub add_products-requires-clause-y : goal.add_products-requires-clause-y
add_products-requires-clause-y c = lanes-bits _ c.rows_from-y.ensures.lanes

pub overflow_mul-k : goal.overflow_mul-k
overflow_mul-k c =
    let k = c.loop-k.k in
    let inside = c.requires.inside (2 * k) (omega (arith, c.loop-k-test.true)) in
    omega (arith, inside, mul-le-mul_right (2 * k) c.requires.some)

pub overflow_mul-k-in-loop-k : goal.overflow_mul-k-in-loop-k
overflow_mul-k-in-loop-k c =
    let k = c.loop-k.k in
    let inside = c.requires.inside (2 * k) (omega (arith, c.loop-k-test.true)) in
    omega (arith, inside, mul-le-mul_right (2 * k) c.requires.some)

pub overflow_add-k : goal.overflow_add-k
overflow_add-k c =
    let k = c.loop-k.k in
    let inside = c.requires.inside (2 * k + 1) (omega (arith, c.loop-k-test.true)) in
    omega (arith, inside, mul-le-mul_right (2 * k + 1) c.requires.some)

pub loop-k-preserved : goal.loop-k-preserved
loop-k-preserved c =
    let k = c.loop-k.k in
    let h = c.args.height in
    let a = c.args.cells.now in
    let x = c.rows_from-x in
    let y = c.rows_from-y in
    let more = c.add_products in
    record {
      lanes = lanes-bits _ more.ensures.low;
      words = more.ensures.crossed;
      rows = λ r below.
          let row = lane h a (c.args.start + r) in
          let here : h * (2 * k) + c.args.start + r ≡ h * (2 * k) + (c.args.start + r) = omega arith in
          let there : h * (2 * k + 1) + c.args.start + r ≡ h * (2 * k + 1) + (c.args.start + r) =
          omega arith in
          next_joined (λ k. row (2 * k) *ℤ row (2 * k + 1)) (map (to_z w64) c.loop-k.low) x.result
          y.result more.result.0 c.loop-k.words more.result.1 r k below x.ensures.lanes
          y.ensures.lanes more.ensures.low (c.loop-k.invariant.rows r below)
          (same-factors (x.ensures.each r below ∙ ap (value_in a) here)
          (y.ensures.each r below ∙ ap (value_in a) there))
          (more.ensures.each r below);
    }

pub returns-clause-each : goal.returns-clause-each
returns-clause-each c t h =
    let whole = le_antisymm c.loop-k.auto.k-end c.loop-k-test.false in
    ap (value_in c.store.new.sums) (sym (zero-add t))
    ∙ c.store.ensures.stored t h
    ∙ c.loop-k.invariant.rows t h
    ∙ ap (λ n. wrap (own_pairs (lane c.args.height c.args.cells.now (c.args.start + t)) n)) whole
