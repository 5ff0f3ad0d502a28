use Rattle.std.proofs.Common.{arith}
use Rattle.uses.proofs.Heights.{leaves_of-low, leaves_of-high}
use Rattle.uses.proofs.leaves.TreeJobGlobal.step.Goals as goal

pub returns-then-height-lt2-clause-law : goal.returns-then-height-lt2-clause-law
returns-then-height-lt2-clause-law c =
    leaves_of-low c.args.self.height (omega (arith, c.if-height-lt2.true))

pub returns-clause-law : goal.returns-clause-law
returns-clause-law c = leaves_of-high c.args.self.height (omega (arith, c.if-height-lt2.false))
