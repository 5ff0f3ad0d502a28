use Rattle.std.proofs.Common.{◌≡◌, ℕ, ℤ, pos, ◌+◌, ◌-◌, ◌*◌, ◌≤◌, length, rules, refl, ap, sym, ◌∙◌, arith}
use Rattle.std.proofs.lemmas.Int.{to_z-of_z}
use Rattle.std.proofs.lemmas.List.Edits.{length-between, get_or-between}
use Rattle.std.specs.Int.{w64}
use Rattle.std.specs.List.{between}
use mir.Val.{SFits, to_z, of_z}
use Rattle.tensor_values.specs.Values.{value_in}
use Rattle.tensor_values.specs.Combining.{combine}
use Rattle.tensor_loops.specs.Folds.{folded}
use Rattle.tensor_loops.proofs.Folding.{folded-more, folded-ext}
use Rattle.tensor_loops.proofs.folds.folded.Goals as goal

pub loop-t-preserved : goal.loop-t-preserved
loop-t-preserved c =
    let f : ℕ → ℤ = λ t. value_in c.args.values.now (c.args.first + t * c.args.step) in
    let fits : SFits w64 c.combine-all.result = search rules in
    let fits_value : SFits w64 (f c.loop-t.t) = search rules in
    let put : to_z w64 (of_z w64 c.combine-all.result) ≡ c.combine-all.result =
    simp to_z-of_z refl in
    let made = simp to_z-of_z at c.combine-all.ensures in
    put ∙ made
    ∙ ap (λ x. combine c.args.reducer x (f c.loop-t.t)) c.loop-t.invariant
    ∙ sym (folded-more c.args.reducer (to_z w64 (of_z w64 c.args.value)) f c.loop-t.t)

pub returns-then-run-gt0 : goal.returns-then-run-gt0
returns-then-run-gt0 c =
    let r = c.args.reducer in
    let x = c.args.value in
    let values = c.args.values.now in
    let first = c.args.first in
    let run = c.args.run in
    let one : c.args.step ≡ 1 = omega arith in
    let part = between first (first + run) values in
    let f : ℕ → ℤ = λ t. value_in values (first + t * c.args.step) in
    let last = c.requires.inside (run - 1) (omega arith) in
    let alone : (run - 1) * c.args.step ≡ run - 1 = grind arith in
    let within : first + run ≤ length values = omega (arith, last, alone) in
    let long : length part ≡ run = length-between values first (first + run) within ∙ omega arith in
    let fits : SFits w64 c.all_with.result = search rules in
    to_z-of_z w64 c.all_with.result fits
    ∙ c.all_with.ensures
    ∙ ap (λ y. folded r y (value_in part) (length part)) (to_z-of_z w64 x c.ranges.value)
    ∙ ap (folded r x (value_in part)) long
    ∙ folded-ext r x (value_in part) f run (λ k below.
    get_or-between values first (first + run) k (pos 0) (omega arith)
    ∙ ap (value_in values) (grind arith))
