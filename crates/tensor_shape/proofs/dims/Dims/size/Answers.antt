use Rattle.std.proofs.Common.{arith}
use Rattle.tensor_shape.proofs.Sizes.{size_of-le-bulk_of}
use Rattle.tensor_shape.proofs.dims.Dims.size.Goals as goal

pub returns-clause-small : goal.returns-clause-small
returns-clause-small c = grind (arith, size_of-le-bulk_of)
