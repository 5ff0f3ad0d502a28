use Rattle.std.proofs.lemmas.Result.{IfOk-weaker}
use Rattle.tensor_reduce.proofs.Batches.{items-from}
use Rattle.tensor_reduce.proofs.running.batch.BatchKernel.fill.Goals as goal

pub returns : goal.returns
returns g c =
    let batch = c.args.self.now in
    IfOk-weaker c.fill.result _ _
    (λ filled. items-from (g.K.Kernel.item_at batch.kernel.now) batch.first c.args.first c.args.last filled.items)
    c.fill.ensures
