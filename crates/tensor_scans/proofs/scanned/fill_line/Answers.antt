use Rattle.std.proofs.Common.{◌≡◌, ℕ, ℤ, pos, ◌+◌, take, rules, refl, ap, sym, ◌∙◌, arith}
use Rattle.std.proofs.lemmas.Int.{to_z-of_z}
use Rattle.std.proofs.lemmas.List.{length-set}
use Rattle.std.proofs.lemmas.List.Sums.{fold_more}
use Rattle.std.specs.Int.{w64}
use mir.Val.{SFits, of_z, to_z}
use Rattle.tensor_values.specs.Combining.{combination, combine, unit}
use Rattle.tensor_values.specs.Values.{value_in}
use Rattle.tensor_values.proofs.Runs.{each-more}
use Rattle.tensor_scans.proofs.scanned.fill_line.Goals as goal

pub loop-i-preserved : goal.loop-i-preserved
loop-i-preserved c =
    let inv = c.loop-i.invariant in
    let r = c.args.reducer in
    let i = c.loop-i.i in
    let out = c.loop-i.out in
    let line = c.args.line.now in
    let at : ℕ = c.args.from + i in
    let fits : SFits w64 c.combine-all.result = search rules in
    let fits_value : SFits w64 (value_in line at) = search rules in
    let x : ℤ = to_z w64 (of_z w64 c.combine-all.result) in
    let put : x ≡ c.combine-all.result = simp to_z-of_z refl in
    let made = simp to_z-of_z at c.combine-all.ensures in
    let is : x ≡ combination r (take (at + 1) line) =
    put ∙ made ∙ ap (λ a. combine r a (value_in line at)) inv.all
    ∙ sym (fold_more (combine r) (unit r) line at (pos 0) (omega arith)) in
    record {
      long = length-set out i x ∙ inv.long;
      all = is ∙ ap (λ n. combination r (take n line)) (omega arith);
      each = each-more (λ k. combination r (take (c.args.from + k + 1) line)) out i x (omega arith) is inv.each;
    }
