use Rattle.std.proofs.Common.{length, refl, inl, inr, arith}
use Rattle.std.proofs.lemmas.Bool.{cases_lt}
use Rattle.std.proofs.lemmas.List.{length-map}
use Rattle.tensor_terms.specs.Contraction.{firsts}
use Rattle.tensor_terms.proofs.Dropped.{are_axes-many}
use Rattle.tensor_terms.proofs.dims.contraction_dims.contracted_dims.Goals as goal

pub returns-in_default : goal.returns-in_default
returns-in_default c =
    elim (cases_lt (length c.args.first.now) (length c.args.pairs.now)) [
      | inl many ↦
          let not_axes = are_axes-many (length c.args.first.now) (firsts c.args.pairs.now)
          (omega (arith, length-map c.args.pairs.now (λ pair. pair.0))) in
          rw not_axes refl
      | inr few ↦ let bad = c.in_default.ensures.some.1 few in (cc)
    ]
