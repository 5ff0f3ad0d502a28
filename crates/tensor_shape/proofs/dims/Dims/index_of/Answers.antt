use Rattle.std.proofs.Common.{arith}
use Rattle.tensor_shape.proofs.Places.{IsIndexOf-index_of, place-index_of}
use Rattle.tensor_shape.proofs.dims.Dims.index_of.Goals as goal

pub returns-clause-index : goal.returns-clause-index
returns-clause-index c = grind (arith, IsIndexOf-index_of _ _ c.requires)

pub returns-clause-back : goal.returns-clause-back
returns-clause-back c = grind (arith, place-index_of _ _ c.requires)
