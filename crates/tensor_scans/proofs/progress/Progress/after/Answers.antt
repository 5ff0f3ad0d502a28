use Rattle.std.proofs.Common.{rules, ◌≡◌, ◌∙◌, ap, sym, refl, ℤ}
use Rattle.std.specs.Int.{w64}
use Rattle.std.proofs.lemmas.Int.{to_z-of_z}
use mir.Val.{SFits, of_z, to_z}
use Rattle.tensor_values.specs.Combining.{combine}
use Rattle.tensor_values.specs.declared.reducer.Reducer.{Reducer}
use Rattle.tensor_scans.specs.Lines.{reducer_of}
use Rattle.tensor_scans.proofs.FirstPlaces.{progress-kept, progress-changed}
use Rattle.tensor_scans.proofs.progress.Progress.after.Goals as goal
use Rattle.tensor_scans.proofs.progress.Progress.after.Goals.{then-combined-self, else-combined-self}

pub returns : goal.returns
returns c xs is =
    let old : SFits w64 c.args.self.combined = search rules in
    let new : SFits w64 c.combine-combined.result = search rules in
    let back : to_z w64 (of_z w64 c.args.self.combined) ≡ c.args.self.combined =
    to_z-of_z w64 c.args.self.combined old in
    let same : to_z w64 (of_z w64 c.combine-combined.result) ≡ c.combine-combined.result =
    to_z-of_z w64 c.combine-combined.result new in
    let next : to_z w64 (of_z w64 c.combine-combined.result)
    ≡ combine (reducer_of c.args.operation) c.args.self.combined c.args.value =
    same ∙ c.combine-combined.ensures
    ∙ ap (λ (r : Reducer). combine r (to_z w64 (of_z w64 c.args.self.combined)) (to_z w64 (of_z w64
    c.args.value))) c.reducer.ensures
    ∙ ap (λ (v : ℤ). combine (reducer_of c.args.operation) v (to_z w64 (of_z w64 c.args.value))) back
    ∙ ap (λ (v : ℤ). combine (reducer_of c.args.operation) c.args.self.combined v)
    (to_z-of_z w64 c.args.value c.ranges.value) in
    elim c.if-combined-self.branch [
      | then-combined-self w ↦
          progress-kept c.args.operation xs c.args.value c.args.self _ c.ranges.value is next refl
          (ap (to_z w64) w.if-combined-self.true ∙ back) w.first-is
      | else-combined-self w ↦
          progress-changed c.args.operation xs c.args.value c.args.self _ is next refl
          (λ e. w.if-combined-self.false (ap (of_z w64) (sym same ∙ e))) w.first-is
    ]
