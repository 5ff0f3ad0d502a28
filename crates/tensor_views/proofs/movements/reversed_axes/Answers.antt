use Rattle.std.proofs.Common.{arith}
use Rattle.std.proofs.lemmas.Grind.{common_steps}
use Rattle.tensor_views.proofs.AxisLists.{reversed_axes-at}
use Rattle.tensor_views.proofs.movements.reversed_axes.Goals as goal

pub loop-k-preserved : goal.loop-k-preserved
loop-k-preserved c =
    let next = reversed_axes-at c.args.axes.now c.args.flags.now c.loop-k.k (omega arith) (omega arith) in
    grind (arith, common_steps, next)
