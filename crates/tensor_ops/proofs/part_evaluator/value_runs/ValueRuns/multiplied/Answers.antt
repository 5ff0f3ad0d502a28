use Rattle.std.proofs.Common.{◌≡◌, ◌+◌, ◌-◌, ◌+ℤ◌, ◌*ℤ◌, ℕ, ℤ, List, length, map, rules, refl, ap, ◌∙◌, arith}
use Rattle.std.specs.Cow.{cow_slice_items}
use Rattle.std.specs.Int.{w64}
use Rattle.std.specs.List.{range_with_len}
use Rattle.std.proofs.lemmas.Int.{to_z-of_z}
use Rattle.std.proofs.lemmas.List.FromFn.{length-map-range_with_len}
use mir.Val.{SFits, to_z, of_z}
use Rattle.tensor_shape.specs.Wrap.{wrap}
use Rattle.tensor_values.specs.Values.{value_in}
use Rattle.tensor_kernels.specs.Products.{sum_to}
use Rattle.tensor_ops.specs.private.ValueRuns.{run_value}
use Rattle.tensor_ops.proofs.PartValues.{sum-piece}
use Rattle.tensor_ops.proofs.part_evaluator.value_runs.ValueRuns.multiplied.Goals as goal

pub sum_with_products-sum-requires : goal.sum_with_products-sum-requires
sum_with_products-sum-requires c =
    let f : ℕ → ℤ = run_value c.args.self.now c.args.run in
    let g : ℕ → ℤ = run_value c.args.other.now c.args.other_run in
    let count : ℕ = c.loop-from.from + c.min.result - c.loop-from.from in
    let left : length c.as_slice.result.now ≡ count =
    ap length c.as_slice.ensures.value ∙ ap length c.in_ok-left.ensures
    ∙ length-map-range_with_len f c.loop-from.from count in
    let right : length c.as_slice-in-loop-from.result.now ≡ count =
    ap length c.as_slice-in-loop-from.ensures.value ∙ ap length c.in_ok-right.ensures
    ∙ length-map-range_with_len g c.loop-from.from count in
    omega (arith, left, right)

pub loop-from-preserved : goal.loop-from-preserved
loop-from-preserved c =
    let f : ℕ → ℤ = run_value c.args.self.now c.args.run in
    let g : ℕ → ℤ = run_value c.args.other.now c.args.other_run in
    let from = c.loop-from.from in
    let xs : List ℤ = cow_slice_items c.in_ok-left.left in
    let ys : List ℤ = cow_slice_items c.in_ok-right.right in
    let same_x : xs ≡ map f (range_with_len from c.min.result) =
    c.in_ok-left.ensures ∙ ap (λ n. map f (range_with_len from n)) (omega arith) in
    let same_y : ys ≡ map g (range_with_len from c.min.result) =
    c.in_ok-right.ensures ∙ ap (λ n. map g (range_with_len from n)) (omega arith) in
    let fits : SFits w64 c.sum_with_products-sum.result = search rules in
    let put : to_z w64 (of_z w64 c.sum_with_products-sum.result) ≡ c.sum_with_products-sum.result =
    simp to_z-of_z refl in
    let s : ℤ = to_z w64 c.loop-from.sum-bits in
    record {
      above = omega arith;
      below = omega arith;
      sum = sum-piece f g c.args.first from c.min.result xs ys s _
          c.loop-from.invariant.above same_x same_y c.loop-from.invariant.sum
          (put ∙ c.sum_with_products-sum.ensures
          ∙ ap (λ l. wrap (s +ℤ sum_to (λ q. value_in l q *ℤ value_in c.as_slice-in-loop-from.result.now q)
          (length l))) c.as_slice.ensures.value
          ∙ ap (λ l. wrap (s +ℤ sum_to (λ q. value_in xs q *ℤ value_in l q)
          (length xs))) c.as_slice-in-loop-from.ensures.value);
    }

pub loop-from-preserved-in_ok-right : goal.loop-from-preserved-in_ok-right
loop-from-preserved-in_ok-right c =
    let f : ℕ → ℤ = run_value c.args.self.now c.args.run in
    let g : ℕ → ℤ = run_value c.args.other.now c.args.other_run in
    let from = c.loop-from.from in
    let xs : List ℤ = cow_slice_items c.in_ok-left.left in
    let ys : List ℤ = cow_slice_items c.in_ok-right.right in
    let same_x : xs ≡ map f (range_with_len from c.min.result) =
    c.in_ok-left.ensures ∙ ap (λ n. map f (range_with_len from n)) (omega arith) in
    let same_y : ys ≡ map g (range_with_len from c.min.result) =
    c.in_ok-right.ensures ∙ ap (λ n. map g (range_with_len from n)) (omega arith) in
    let fits : SFits w64 c.sum_with_products-sum.result = search rules in
    let put : to_z w64 (of_z w64 c.sum_with_products-sum.result) ≡ c.sum_with_products-sum.result =
    simp to_z-of_z refl in
    let s : ℤ = to_z w64 c.loop-from.sum-bits in
    record {
      above = omega arith;
      below = omega arith;
      sum = sum-piece f g c.args.first from c.min.result xs ys s _
          c.loop-from.invariant.above same_x same_y c.loop-from.invariant.sum
          (put ∙ c.sum_with_products-sum.ensures
          ∙ ap (λ l. wrap (s +ℤ sum_to (λ q. value_in l q *ℤ value_in c.as_slice-in-loop-from.result.now q)
          (length l))) c.as_slice.ensures.value
          ∙ ap (λ l. wrap (s +ℤ sum_to (λ q. value_in xs q *ℤ value_in l q)
          (length xs))) c.as_slice-in-loop-from.ensures.value);
    }
