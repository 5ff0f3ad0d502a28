use Rattle.std.proofs.Common.{◌≡◌, true, length, arith}
use Rattle.tensor_terms.specs.Movement.{has_all_below}
use Rattle.tensor_terms.proofs.Legality.{are_legal-shuffle}
use Rattle.tensor_terms.proofs.Permutations.{get_or-permutation}
use Rattle.tensor_terms.proofs.dims.movement_dims.shuffle_dims.Goals as goal

pub shuffled_dims-requires-clause-axes : goal.shuffled_dims-requires-clause-axes
shuffled_dims-requires-clause-axes c = λ k within.
    let all : has_all_below (length c.as_slice-sizes.result.now) c.args.order.now ≡ true = grind arith in
    get_or-permutation (length c.as_slice-sizes.result.now) c.args.order.now k (omega arith) all within

pub returns : goal.returns
returns c =
    let all : has_all_below (length c.args.dims.now) c.args.order.now ≡ true = grind arith in
    let legal = are_legal-shuffle c.args.dims.now c.args.order.now c.as_slice-sizes.ensures.legal (grind arith) all in
    grind (arith, legal, all)
