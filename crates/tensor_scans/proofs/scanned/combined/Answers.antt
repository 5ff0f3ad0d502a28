use Rattle.std.proofs.Common.{◌≡◌, pos, rules, refl, ap, sym, ◌∙◌}
use Rattle.std.proofs.lemmas.Int.{to_z-of_z}
use Rattle.std.proofs.lemmas.List.Sums.{fold_more}
use Rattle.std.specs.Int.{w64}
use mir.Val.{SFits, of_z, to_z}
use Rattle.tensor_values.specs.Combining.{combine, unit}
use Rattle.tensor_values.specs.Values.{value_in}
use Rattle.tensor_scans.proofs.scanned.combined.Goals as goal

pub loop-value-preserved : goal.loop-value-preserved
loop-value-preserved c =
    let r = c.args.reducer in
    let values = c.args.values.now in
    let i = c.loop-value.value-index in
    let fits : SFits w64 c.combine-all.result = search rules in
    let fits_value : SFits w64 (value_in values i) = search rules in
    let put : to_z w64 (of_z w64 c.combine-all.result) ≡ c.combine-all.result = simp to_z-of_z refl in
    let made = simp to_z-of_z at c.combine-all.ensures in
    put ∙ made
    ∙ ap (λ a. combine r a (value_in values i)) c.loop-value.invariant
    ∙ sym (fold_more (combine r) (unit r) values i (pos 0) c.loop-value-test.true)
