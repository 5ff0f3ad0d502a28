use Rattle.std.proofs.Common.{◌≡◌, ℕ, ℤ, pos, ◌+◌, ◌*◌, ◌<◌, length, rules, refl, ap, ◌∙◌, arith}
use Rattle.std.proofs.lemmas.Int.{to_z-of_z}
use Rattle.std.proofs.lemmas.List.{length-set, get_or-set_other}
use Rattle.std.specs.Int.{w64}
use mir.Val.{SFits, to_z, of_z}
use Rattle.tensor_loops.specs.Folds.{folded}
use Rattle.tensor_values.specs.Values.{value_in}
use Rattle.tensor_values.proofs.Runs.{each-more}
use Rattle.tensor_loops.proofs.folds.combine_by_value.Goals as goal

pub folded-requires-clause-inside : goal.folded-requires-clause-inside
folded-requires-clause-inside c =
    λ t below. c.requires.inside c.loop-i.i t (omega (arith, c.loop-i.invariant.long)) below

pub loop-i-preserved : goal.loop-i-preserved
loop-i-preserved c =
    let row = c.loop-i.row in
    let i = c.loop-i.i in
    let within : i < length row = omega (arith, c.loop-i.invariant.long) in
    let done : ℕ → ℤ = λ k. folded c.args.reducer (value_in c.args.row.now k)
    (λ t. value_in c.args.values.now (c.args.start + k + t * c.args.step)) c.args.run in
    let fits : SFits w64 c.folded.result = search rules in
    let fits_value : SFits w64 (value_in row i) = search rules in
    let put : to_z w64 (of_z w64 c.folded.result) ≡ c.folded.result = simp to_z-of_z refl in
    let made = simp to_z-of_z at c.folded.ensures in
    let here : to_z w64 (of_z w64 c.folded.result) ≡ done i =
    put ∙ made
    ∙ ap (λ x. folded c.args.reducer x (λ t.
    value_in c.args.values.now (c.args.start + i + t * c.args.step)) c.args.run)
    (c.loop-i.invariant.rest i (omega arith)) in
    record {
      long = length-set row i (to_z w64 (of_z w64 c.folded.result)) ∙ c.loop-i.invariant.long;
      each = each-more done row i (to_z w64 (of_z w64 c.folded.result)) within here
          c.loop-i.invariant.each;
      rest = λ k above.
          get_or-set_other row i k (to_z w64 (of_z w64 c.folded.result)) (pos 0) (omega arith)
          ∙ c.loop-i.invariant.rest k (omega arith);
    }
