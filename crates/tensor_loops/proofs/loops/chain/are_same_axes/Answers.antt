use Rattle.std.proofs.Common.{arith}
use Rattle.std.proofs.lemmas.List.{ext_get_or}
use Rattle.tensor_views.specs.Forward.{no_axis}
use Rattle.tensor_loops.proofs.loops.chain.are_same_axes.Goals as goal

pub returns : goal.returns
returns c = λ same.
    ext_get_or no_axis c.args.first.now c.args.second.now (omega arith)
    (λ k below. c.loop-k.invariant k (omega arith))
