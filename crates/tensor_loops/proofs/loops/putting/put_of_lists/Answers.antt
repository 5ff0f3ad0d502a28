use Rattle.std.proofs.Common.{◌≡◌, pos, get_or, refl, ◌∙◌, rules, arith}
use Rattle.std.proofs.lemmas.Int.{to_z-of_z}
use Rattle.std.proofs.lemmas.List.{length-set}
use Rattle.std.specs.Int.{w64}
use mir.Val.{SFits, to_z, of_z}
use Rattle.tensor_loops.specs.Loops.{either_way}
use Rattle.tensor_values.proofs.Runs.{each-more}
use Rattle.tensor_loops.proofs.loops.putting.put_of_lists.Goals as goal

pub loop-place-preserved : goal.loop-place-preserved
loop-place-preserved c =
    let vs = c.loop-place.values in
    let i = c.loop-place.place in
    let o = either_way c.args.link.operation c.args.link.swapped in
    let xs = c.args.first.now in
    let ys = c.args.second.now in
    let fits : SFits w64 c.either_way.result = search rules in
    let fits_first : SFits w64 (get_or c.args.first.now i (pos 0)) = search rules in
    let fits_second : SFits w64 (get_or c.args.second.now i (pos 0)) = search rules in
    let put : to_z w64 (of_z w64 c.either_way.result) ≡ c.either_way.result = simp to_z-of_z refl in
    let made = simp to_z-of_z at c.either_way.ensures in
    record {
      len = length-set vs i (to_z w64 (of_z w64 c.either_way.result)) ∙ c.loop-place.invariant.len;
      each = each-more (λ k. o (get_or xs k (pos 0)) (get_or ys k (pos 0))) vs i
          (to_z w64 (of_z w64 c.either_way.result)) (omega arith) (put ∙ made) c.loop-place.invariant.each;
    }
