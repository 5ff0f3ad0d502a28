use Rattle.std.proofs.Common.{arith}
use Rattle.tensor_shape.proofs.Sizes.{mul-le-bulk_of}
use Rattle.tensor_shape.proofs.dims.strides_of.Goals as goal

pub overflow_mul-stride : goal.overflow_mul-stride
overflow_mul-stride c =
    omega (arith, mul-le-bulk_of c.loop-size.stride _ c.args.sizes.now c.loop-size.size-index (omega arith) c.loop-size.invariant.2)
