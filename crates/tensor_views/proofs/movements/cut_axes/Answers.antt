use Rattle.std.proofs.Common.{arith}
use Rattle.std.proofs.lemmas.Grind.{common_steps}
use Rattle.tensor_views.proofs.AxisLists.{cut_axes-at}
use Rattle.tensor_views.proofs.movements.cut_axes.Goals as goal

pub loop-k-preserved : goal.loop-k-preserved
loop-k-preserved c =
    let next = cut_axes-at c.args.axes.now c.args.sizes.now c.loop-k.k (omega arith) (omega arith) in
    grind (arith, common_steps, next)
