use Rattle.std.proofs.Common.{◌≡◌, Ok, subst, arith, to_z, of_z, w64}
use Rattle.std.proofs.lemmas.Grind.{common_steps}
use Rattle.tensor_c.specs.Part.{IsPartCall}
use Rattle.tensor_c.proofs.part.put_part.Goals as goal

pub returns-in-Ok : goal.returns-in-Ok
returns-in-Ok c =
    let fits : to_z w64 (of_z w64 c.put_ready.result) ≡ c.put_ready.result = grind (arith, common_steps) in
    rw fits
    (subst (λ t. IsPartCall (Ok t) c.args.first c.args.out.now (record { result = c.put_ready.result; out = c.put_ready.new.out }))
    c.in-Ok.ensures c.put_ready.ensures.call)
