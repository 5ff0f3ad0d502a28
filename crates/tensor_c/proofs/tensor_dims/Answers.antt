use Rattle.std.proofs.Common.{◌≡◌, ap, ◌∙◌, arith, to_z, of_z, w64}
use Rattle.std.proofs.lemmas.Grind.{common_steps}
use Rattle.tensor_c.specs.Answer.{answer_dims}
use Rattle.tensor_c.specs.Call.{called_for_dims}
use Rattle.tensor_c.proofs.Found.{found-dims}
use Rattle.tensor_c.proofs.tensor_dims.Goals as goal

pub returns-clause-call : goal.returns-clause-call
returns-clause-call c = λ values long.
    let fits : to_z w64 (of_z w64 c.put_found.result) ≡ c.put_found.result = grind (arith, common_steps) in
    rw fits
    (found-dims c.dims_of.result (answer_dims c.args.header.now values) c.args.dims.now _ (c.dims_of.ensures.dims values long) c.put_found.ensures)

pub returns-clause-too_long : goal.returns-clause-too_long
returns-clause-too_long c = λ long.
    let fits : to_z w64 (of_z w64 c.put_found.result) ≡ c.put_found.result = grind (arith, common_steps) in
    rw fits (c.put_found.ensures ∙ ap (λ r. called_for_dims r c.args.dims.now) (c.dims_of.ensures.too_long long))
