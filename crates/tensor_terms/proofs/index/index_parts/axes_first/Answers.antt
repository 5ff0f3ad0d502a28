use Rattle.std.proofs.Common.{arith}
use Rattle.tensor_terms.proofs.Dropped.{length-axes}
use Rattle.tensor_terms.proofs.index.index_parts.axes_first.Goals as goal

pub extend-requires : goal.extend-requires
extend-requires c = let whole = length-axes c.args.rank c.args.axes.now c.requires.axes in grind
    (arith, whole)

pub extend-requires-2 : goal.extend-requires-2
extend-requires-2 c = let whole =
    length-axes c.args.rank c.args.axes.now c.requires.axes in grind (arith, whole)
