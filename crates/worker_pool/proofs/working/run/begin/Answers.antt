use Rattle.std.proofs.Common.{rules}
use Rattle.worker_pool.specs.Nodes.{is_abandoned}
use Rattle.worker_pool.proofs.Runnings.{ran-refused}
use Rattle.worker_pool.proofs.working.run.begin.Goals as goal

pub returns-then-is_err-clause-ran : goal.returns-then-is_err-clause-ran
returns-then-is_err-clause-ran g c =
    rw c.reserve.ensures.items (ran-refused _ _ _ _ _ (is_abandoned _ (search rules)))
