use Rattle.std.proofs.Common.{arith}
use Rattle.tensor_shape.proofs.Places.{place-below-size_of, index_of-place}
use Rattle.tensor_shape.proofs.dims.Dims.linear.Goals as goal

pub returns-clause-below : goal.returns-clause-below
returns-clause-below c = grind (arith, place-below-size_of _ _ c.requires)

pub returns-clause-back : goal.returns-clause-back
returns-clause-back c = grind (arith, index_of-place _ _ c.requires)
