use Rattle.std.proofs.Common.{◌≡◌, ◌∙◌, ap, pos, ◌/◌, to_z, of_z}
use Rattle.std.specs.Prelude.{int_lt}
use Rattle.std.specs.Int.{w64}
use Rattle.std.proofs.lemmas.Int.{to_z-of_z}
use mir.Val.{SFits}
use Rattle.tensor_loops.specs.private.Distance.{distance, at_distance}
use Rattle.tensor_loops.proofs.Inverses.{floor_over-is}
use Rattle.tensor_loops.proofs.loops.inverse.Inverse.floor_quotient.Goals as goal

pub returns : goal.returns
returns c =
    let d = c.args.self.divisor in
    let fits : SFits w64 c.at_distance.result = record { sfits = c.at_distance.type_inv } in
    let x : to_z w64 (of_z w64 c.args.x) ≡ c.args.x = to_z-of_z w64 c.args.x c.ranges.x in
    to_z-of_z w64 c.at_distance.result fits ∙ c.at_distance.ensures
    ∙ ap (λ z. at_distance (int_lt z (pos 0)) c.quotient.result) x
    ∙ ap (at_distance (int_lt c.args.x (pos 0)))
    (c.quotient.ensures ∙ ap (λ n. n / d) (c.distance.ensures.distance ∙ ap distance x))
    ∙ floor_over-is c.args.x d
