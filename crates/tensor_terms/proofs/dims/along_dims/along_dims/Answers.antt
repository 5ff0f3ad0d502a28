use Rattle.std.proofs.Common.{arith}
use Rattle.tensor_terms.proofs.Legality.{are_legal-chip}
use Rattle.tensor_terms.proofs.dims.along_dims.along_dims.Goals as goal

pub returns : goal.returns
returns c =
    let legal = are_legal-chip c.args.dims.now c.args.axis c.as_slice-sizes.ensures.legal in
    grind (arith, legal)
