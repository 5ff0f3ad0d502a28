use Rattle.std.proofs.Common.{refl}
use Rattle.tensor_terms.proofs.Known.{contraction-known}
use Rattle.tensor_runner.proofs.work.binary_steps.Goals as goal

-- a contraction that has dims is over axes
pub paired_dims-summed-requires : goal.paired_dims-summed-requires
paired_dims-summed-requires c =
    let has = rw c.in-Contract.is at c.requires.dims in
    (contraction-known c.in-Contract.pairs.now c.args.first.now.dims c.args.second.now.dims (rw has refl)).first
