use Rattle.std.proofs.Common.{arith}
use Rattle.tensor_shape.proofs.Sizes.{mul-le-bulk_of}
use Rattle.tensor_shape.proofs.dims.product.Goals as goal

pub overflow_mul-product : goal.overflow_mul-product
overflow_mul-product c =
    omega (arith, mul-le-bulk_of c.loop-size.product _ c.args.sizes.now c.loop-size.size-index (omega arith) c.loop-size.invariant.1)
