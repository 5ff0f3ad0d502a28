use Rattle.std.proofs.Common.{arith}
use Rattle.tensor_terms.proofs.Moved.{get_or-legal}
use Rattle.tensor_terms.proofs.dims.concatenation_dims.concatenated_dims.Goals as goal

pub joined_dims-requires-clause-small : goal.joined_dims-requires-clause-small
joined_dims-requires-clause-small c =
    omega (
      arith,
      get_or-legal c.as_slice-firsts.result.now c.args.axis (rw c.as_slice-firsts.ensures.value c.as_slice-firsts.ensures.legal) (omega arith),
      get_or-legal c.as_slice-seconds.result.now c.args.axis (rw c.as_slice-seconds.ensures.value c.as_slice-seconds.ensures.legal) (omega arith),
    )
