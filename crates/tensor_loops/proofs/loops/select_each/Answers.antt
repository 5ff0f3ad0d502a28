use Rattle.std.proofs.Common.{◌≡◌, pos, get_or, refl, ap, ◌∙◌, rules, arith}
use Rattle.std.proofs.lemmas.Int.{to_z-of_z}
use Rattle.std.proofs.lemmas.List.{length-set, get_or-set_other}
use Rattle.std.specs.Int.{w64}
use mir.Val.{SFits, to_z, of_z}
use Rattle.tensor_loops.specs.Loops.{selected}
use Rattle.tensor_values.proofs.Runs.{each-more}
use Rattle.tensor_loops.proofs.loops.select_each.Goals as goal

pub loop-place-preserved : goal.loop-place-preserved
loop-place-preserved c =
    let vs = c.loop-place.values in
    let i = c.loop-place.place in
    let fits : SFits w64 c.selected.result = search rules in
    let fits_first : SFits w64 (get_or c.loop-place.values c.loop-place.place (pos 0)) = search rules in
    let fits_second : SFits w64 (get_or c.args.second.now i (pos 0)) = search rules in
    let fits_third : SFits w64 (get_or c.args.third.now i (pos 0)) = search rules in
    let put : to_z w64 (of_z w64 c.selected.result) ≡ c.selected.result = simp to_z-of_z refl in
    let made = simp to_z-of_z at c.selected.ensures in
    let read : get_or vs i (pos 0) ≡ get_or c.args.values.now i (pos 0) =
    c.loop-place.invariant.2 i (omega arith) in
    let here : to_z w64 (of_z w64 c.selected.result)
    ≡ selected c.args.order (get_or c.args.values.now i (pos 0)) (get_or c.args.second.now i (pos 0)) (get_or c.args.third.now i (pos 0)) =
    put ∙ made ∙ ap (λ x. selected c.args.order x (get_or c.args.second.now i (pos 0)) (get_or c.args.third.now i (pos 0))) read in (
      length-set vs i (to_z w64 (of_z w64 c.selected.result)) ∙ c.loop-place.invariant.0,
      each-more (λ k. selected c.args.order (get_or c.args.values.now k (pos 0)) (get_or c.args.second.now k (pos 0)) (get_or c.args.third.now k (pos 0)))
          vs i (to_z w64 (of_z w64 c.selected.result)) (omega arith) here c.loop-place.invariant.1,
      λ k above. get_or-set_other vs i k (to_z w64 (of_z w64 c.selected.result)) (pos 0) (omega arith) ∙ c.loop-place.invariant.2 k (omega arith),
    )
