use Rattle.std.proofs.Common.{arith}
use Rattle.tensor_shape.proofs.Sizes.{bulk_of-take-le}
use Rattle.tensor_shape.proofs.dims.Dims.stride.Goals as goal

pub product-requires : goal.product-requires
product-requires c = grind (arith, bulk_of-take-le)
