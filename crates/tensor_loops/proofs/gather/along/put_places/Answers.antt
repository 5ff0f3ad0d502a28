use Rattle.std.proofs.Common.{◌≡◌, ℕ, ℤ, ◌+◌, ◌*◌, pos, get_or, refl, ap, ◌∙◌, rules, arith}
use Rattle.std.proofs.lemmas.Int.{to_z-of_z}
use Rattle.std.proofs.lemmas.List.{length-set, get_or-set_other}
use Rattle.std.specs.Int.{w64}
use mir.Val.{SFits, to_z, of_z}
use Rattle.tensor_values.specs.Values.{value_in}
use Rattle.tensor_views.specs.View.{place_in}
use Rattle.tensor_loops.proofs.CombinedRows.{placed-more}
use Rattle.tensor_loops.proofs.gather.along.put_places.Goals as goal

pub loop-k-preserved : goal.loop-k-preserved
loop-k-preserved c =
    let inv = c.loop-k.invariant in
    let vs = c.loop-k.values in
    let at = c.args.at in
    let k = c.loop-k.k in
    let row = c.args.row in
    let list = c.args.list.now in
    let place : ℕ = row.start + c.steps_to.result * row.axis.step in
    let value : ℤ = to_z w64 (of_z w64 (get_or list place (pos 0))) in
    let fits : SFits w64 (get_or c.args.list.now (c.args.row.start + c.steps_to.result * c.args.row.axis.step) (pos 0)) = search rules in
    let put : to_z w64 (of_z w64 (get_or list place (pos 0))) ≡ get_or list place (pos 0) = simp to_z-of_z refl in
    let reached : place ≡ place_in row k = ap (λ n. row.start + n * row.axis.step) c.steps_to.ensures in
    let here : value ≡ value_in list (place_in row k) = put ∙ ap (value_in list) reached in
    record {
      len = length-set vs (at + k) value ∙ inv.len;
      each = placed-more (λ j. value_in list (place_in row j)) vs at k value (omega arith) here inv.each;
      before = λ j below. get_or-set_other vs (at + k) j value (pos 0) (omega arith) ∙ inv.before j below;
      after = λ j above. get_or-set_other vs (at + k) j value (pos 0) (omega arith) ∙ inv.after j (omega arith);
    }

pub loop-k-init : goal.loop-k-init
loop-k-init c = record {
  len = refl;
  each = λ j below. absurd (omega arith);
  before = λ j below. refl;
  after = λ j above. refl;
}

pub returns : goal.returns
returns c =
    let inv = c.loop-k.invariant in
    let done : c.loop-k.k ≡ c.args.row.count = omega arith in
    record {
      len = inv.len;
      each = λ k below. inv.each k (omega arith);
      before = inv.before;
      after = λ k above. inv.after k (omega arith);
    }
