use Rattle.std.proofs.Common.{◌≡◌, ◌+◌, refl, ap, ◌∙◌, rules, arith}
use Rattle.std.proofs.lemmas.Int.{to_z-of_z}
use Rattle.std.specs.Int.{w64}
use mir.Val.{SFits, to_z, of_z}
use Rattle.tensor_ops.specs.private.Reduced.{combined_at}
use Rattle.tensor_ops.proofs.operands.reduction.Reduction.fill.Goals as goal

pub returns-clause-each : goal.returns-clause-each
returns-clause-each c = λ k below.
    let s = c.args.self.now in
    let fits : SFits w64 c.unit.result = search rules in
    let put : to_z w64 (of_z w64 c.unit.result) ≡ c.unit.result = simp to_z-of_z refl in
    c.combine.ensures.each k (omega (arith, c.put_all.ensures.len, below))
    ∙ ap (λ x. combined_at s s.reducer x (c.args.first + k))
    (c.put_all.ensures.each k below ∙ put ∙ c.unit.ensures)
