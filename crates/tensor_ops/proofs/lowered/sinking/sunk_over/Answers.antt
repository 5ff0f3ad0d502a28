use Rattle.std.proofs.lemmas.Result.{IfOk-weaker}
use Rattle.tensor_ops.proofs.Sunk.{gives-followed}
use Rattle.tensor_ops.proofs.lowered.sinking.sunk_over.Goals as goal

pub returns : goal.returns
returns c =
    IfOk-weaker c.sunk.result _ _ (λ r follows. gives-followed r c.args.lowered c.args.dims.now c.requires.count follows) c.sunk.ensures
