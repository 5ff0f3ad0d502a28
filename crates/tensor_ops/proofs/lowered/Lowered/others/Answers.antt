use Rattle.std.proofs.Common.{rules, ◌≡◌, pos, get_or, refl, ap, sym, ◌∙◌, arith}
use Rattle.std.proofs.lemmas.Int.{to_z-of_z}
use Rattle.std.proofs.lemmas.List.{get_or-map, length-map}
use Rattle.std.specs.Int.{w64}
use mir.Val.{SFits, to_z, of_z}
use Rattle.tensor_ops.specs.private.Meaning.{meaning}
use Rattle.tensor_views.specs.Places.{places_of}
use Rattle.tensor_ops.proofs.lowered.Lowered.others.Goals as goal

pub returns-in-Filled : goal.returns-in-Filled
returns-in-Filled c =
    let fits : SFits w64 c.in-Filled.value = search rules in
    let same : to_z w64 (of_z w64 c.in-Filled.value) ≡ c.in-Filled.value = simp to_z-of_z refl in
    let places = places_of c.args.places.now in
    record {
      long = tt;
      each = λ k below. same
          ∙ ap (λ a. meaning a (get_or places k 0)) (sym c.in-Filled.is)
          ∙ sym (get_or-map (meaning c.args.self.now) places k 0 (pos 0) (omega (arith, below, length-map places (meaning c.args.self.now))));
    }
