use Rattle.std.proofs.Common.{rules, ◌≡◌, ℤ, pos, ◌∙◌, ap, sym, get_or, refl, arith}
use Rattle.std.specs.Int.{w64}
use Rattle.std.proofs.lemmas.Int.{to_z-of_z}
use Rattle.std.proofs.lemmas.List.Sums.{fold_more}
use mir.Val.{SFits, to_z, of_z}
use Rattle.tensor_ops.specs.Combining.{combine, unit}
use Rattle.tensor_reduce.proofs.running.combined.combination.Goals as goal

pub loop-part-preserved : goal.loop-part-preserved
loop-part-preserved c =
    let r = c.args.reducer in
    let parts = c.args.parts.now in
    let part : ℤ = get_or parts c.loop-part.part-index (pos 0) in
    let fits_part : SFits w64 part = search rules in
    let fits : SFits w64 c.combine-value.result = search rules in
    let put : to_z w64 (of_z w64 c.combine-value.result) ≡ c.combine-value.result =
    simp to_z-of_z refl in
    let made = simp to_z-of_z at c.combine-value.ensures in
    put ∙ made
    ∙ ap (λ x. combine r x part) c.loop-part.invariant
    ∙ sym (fold_more (combine r) (unit r) parts c.loop-part.part-index (pos 0) (omega arith))
