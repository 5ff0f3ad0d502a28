use Rattle.std.proofs.Common.{arith, rules}
use Rattle.std.proofs.lemmas.Int.{wraps}
use Rattle.tensor_kernels.proofs.ChunkSums.{before-later}
use Rattle.tensor_kernels.proofs.tiling.placing.with_sum.Goals as goal

pub returns-else-c-eq0 : goal.returns-else-c-eq0
returns-else-c-eq0 c =
    rw (before-later c.args.c c.args.there (omega arith))
    (search (rules, wraps))
