use Rattle.std.proofs.Common.{◌≡◌, ℕ, ℤ, List, length, map, rules, refl, ap, ◌∙◌, arith}
use Rattle.std.specs.Cow.{cow_slice_items}
use Rattle.std.specs.Int.{w64}
use Rattle.std.specs.List.{range_with_len}
use Rattle.std.proofs.lemmas.Int.{to_z-of_z}
use mir.Val.{SFits, to_z, of_z}
use Rattle.tensor_loops.specs.Folds.{folded}
use Rattle.tensor_values.specs.Values.{value_in}
use Rattle.tensor_values.specs.Combining.{unit}
use Rattle.tensor_ops.specs.private.ValueRuns.{run_value}
use Rattle.tensor_ops.proofs.PartValues.{folded-piece}
use Rattle.tensor_ops.proofs.part_evaluator.value_runs.ValueRuns.combined.Goals as goal

pub loop-from-preserved : goal.loop-from-preserved
loop-from-preserved c =
    let r = c.args.reducer in
    let f : ℕ → ℤ = run_value c.args.self.now c.args.run in
    let from = c.loop-from.from in
    let items : List ℤ = cow_slice_items c.in_ok-piece.piece in
    let same : items ≡ map f (range_with_len from c.min.result) =
    c.in_ok-piece.ensures ∙ ap (λ n. map f (range_with_len from n)) (omega arith) in
    let fits : SFits w64 c.combined_with-value.result = search rules in
    let put : to_z w64 (of_z w64 c.combined_with-value.result) ≡ c.combined_with-value.result =
    simp to_z-of_z refl in
    record {
      above = omega arith;
      below = omega arith;
      value = put ∙ c.combined_with-value.ensures
          ∙ ap (λ l. folded r (to_z w64 c.loop-from.value-bits) (value_in l) (length l)) c.as_slice.ensures.value
          ∙ ap (λ x. folded r x (value_in items) (length items)) c.loop-from.invariant.value
          ∙ folded-piece r (unit r) f c.args.first from c.min.result items
          c.loop-from.invariant.above same;
    }

pub loop-from-preserved-in_ok-piece : goal.loop-from-preserved-in_ok-piece
loop-from-preserved-in_ok-piece c =
    let r = c.args.reducer in
    let f : ℕ → ℤ = run_value c.args.self.now c.args.run in
    let from = c.loop-from.from in
    let items : List ℤ = cow_slice_items c.in_ok-piece.piece in
    let same : items ≡ map f (range_with_len from c.min.result) =
    c.in_ok-piece.ensures ∙ ap (λ n. map f (range_with_len from n)) (omega arith) in
    let fits : SFits w64 c.combined_with-value.result = search rules in
    let put : to_z w64 (of_z w64 c.combined_with-value.result) ≡ c.combined_with-value.result =
    simp to_z-of_z refl in
    record {
      above = omega arith;
      below = omega arith;
      value = put ∙ c.combined_with-value.ensures
          ∙ ap (λ l. folded r (to_z w64 c.loop-from.value-bits) (value_in l) (length l)) c.as_slice.ensures.value
          ∙ ap (λ x. folded r x (value_in items) (length items)) c.loop-from.invariant.value
          ∙ folded-piece r (unit r) f c.args.first from c.min.result items
          c.loop-from.invariant.above same;
    }
