use Rattle.std.proofs.Common.{◌∙◌, arith}
use Rattle.tensor_dots.proofs.SimdLanes.{value_in-bits}
use Rattle.tensor_dots.proofs.dots.small_eight.joined.Goals as goal

pub returns-clause-low : goal.returns-clause-low
returns-clause-low c r h =
    c.loop-r.invariant.1 r (omega arith)
    ∙ value_in-bits c.args.low r (omega (arith, c.requires.low.0)) (c.requires.low.1 r h)

pub returns-clause-high : goal.returns-clause-high
returns-clause-high c r h =
    c.loop-r.invariant.2 r (omega arith)
    ∙ value_in-bits c.args.high r (omega (arith, c.requires.high.0)) (c.requires.high.1 r h)
