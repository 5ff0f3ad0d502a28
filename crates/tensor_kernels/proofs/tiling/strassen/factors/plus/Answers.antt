use Rattle.std.proofs.Common.{rules}
use Rattle.std.proofs.lemmas.Int.{wraps}
use Rattle.tensor_kernels.proofs.tiling.strassen.factors.plus.Goals as goal

pub returns : goal.returns
returns c = search (rules, wraps)
