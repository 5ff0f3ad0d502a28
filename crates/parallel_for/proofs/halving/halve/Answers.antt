use Rattle.std.proofs.Common.{rules}
use Rattle.parallel_for.proofs.Cutting.{leaves_of-cut, blocks_of-cut}
use Rattle.parallel_for.proofs.halving.halve.Goals as goal

pub returns-clause-leaves : goal.returns-clause-leaves
returns-clause-leaves c =
    leaves_of-cut c.args.first c.args.last c.div_ceil.result c.args.block c.requires.some
    c.requires.order (search rules)

pub returns-clause-blocks : goal.returns-clause-blocks
returns-clause-blocks c =
    blocks_of-cut c.args.first c.args.last c.div_ceil.result c.args.block c.requires.some
    c.requires.order (search rules)
