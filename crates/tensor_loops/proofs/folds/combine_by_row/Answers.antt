use Rattle.std.proofs.Common.{◌≡◌, ℕ, ℤ, pos, ◌+◌, ◌*◌, length, ap, sym, ◌∙◌, arith}
use Rattle.std.proofs.lemmas.List.Edits.{get_or-between}
use Rattle.std.specs.List.{between}
use Rattle.tensor_loops.specs.Folds.{folded}
use Rattle.tensor_values.specs.Values.{value_in}
use Rattle.tensor_values.specs.Combining.{combine}
use Rattle.tensor_loops.proofs.Folding.{folded-more}
use Rattle.tensor_loops.proofs.folds.combine_by_row.Goals as goal

pub loop-t-preserved : goal.loop-t-preserved
loop-t-preserved c =
    let values = c.args.values.now in
    let t = c.loop-t.t in
    let from : ℕ = c.args.start + t * c.args.step in
    let to : ℕ = from + length c.args.row.now in
    record {
      len = omega (arith, c.fold_row.ensures.len, c.loop-t.invariant.len);
      each = λ i below.
          let x = value_in c.args.row.now i in
          let f : ℕ → ℤ = λ s. value_in values (c.args.start + i + s * c.args.step) in
          let here : from + i ≡ c.args.start + i + t * c.args.step = omega arith in
          c.fold_row.ensures.each i (omega (arith, c.loop-t.invariant.len))
          ∙ ap (λ y. combine c.args.reducer y (value_in (between from to values) i))
          (c.loop-t.invariant.each i below)
          ∙ ap (combine c.args.reducer (folded c.args.reducer x f t))
          (get_or-between values from to i (pos 0) (omega arith) ∙ ap (value_in values) here)
          ∙ sym (folded-more c.args.reducer x f t);
    }
