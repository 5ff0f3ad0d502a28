use Rattle.std.proofs.Common.{◌≡◌, true, arith}
use Rattle.tensor_terms.specs.Movement.{none_is_zero}
use Rattle.tensor_terms.proofs.Known.{get_or-none_is_zero}
use Rattle.tensor_terms.proofs.Legality.{are_legal-stride}
use Rattle.tensor_terms.proofs.dims.movement_dims.stride_dims.Goals as goal

pub strided_dims-requires-clause-some : goal.strided_dims-requires-clause-some
strided_dims-requires-clause-some c = λ k within.
    let some : none_is_zero c.args.steps.now ≡ true = grind arith in
    get_or-none_is_zero c.args.steps.now k some within

pub returns : goal.returns
returns c =
    let some : none_is_zero c.args.steps.now ≡ true = grind arith in
    let legal = are_legal-stride c.args.dims.now c.args.steps.now c.as_slice.ensures.legal some in
    grind (arith, legal, some)
