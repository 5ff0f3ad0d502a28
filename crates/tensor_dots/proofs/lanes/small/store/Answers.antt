use Rattle.std.proofs.Common.{◌∙◌, arith}
use Rattle.tensor_dots.proofs.SimdLanes.{value_in-bits}
use Rattle.tensor_dots.proofs.lanes.small.store.Goals as goal

pub returns-clause-stored : goal.returns-clause-stored
returns-clause-stored c r h =
    c.loop-r.invariant.1 r (omega arith)
    ∙ value_in-bits c.args.lanes r (omega (arith, c.requires.lanes.0)) (c.requires.lanes.1 r h)
