use Rattle.std.proofs.Common.{arith}
use Rattle.std.proofs.lemmas.Grind.{common_steps}
use Rattle.tensor_views.proofs.AxisLists.{by_steps-at}
use Rattle.tensor_views.proofs.movements.start_at.Goals as goal

pub overflow_mul-place : goal.overflow_mul-place
overflow_mul-place c =
    let next = by_steps-at c.args.view.axes.now c.args.index.now c.loop-k.k (omega arith) (omega arith) in
    grind (arith, common_steps, next)

pub overflow_add-place : goal.overflow_add-place
overflow_add-place c =
    let next = by_steps-at c.args.view.axes.now c.args.index.now c.loop-k.k (omega arith) (omega arith) in
    grind (arith, common_steps, next)

pub loop-k-preserved : goal.loop-k-preserved
loop-k-preserved c =
    let next = by_steps-at c.args.view.axes.now c.args.index.now c.loop-k.k (omega arith) (omega arith) in
    grind (arith, common_steps, next)
