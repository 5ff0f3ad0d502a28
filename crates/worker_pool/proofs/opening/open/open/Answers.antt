use Rattle.std.proofs.Common.{refl}
use Rattle.worker_pool.proofs.Checks.{error-both_ok}
use Rattle.worker_pool.proofs.opening.open.open.Goals as goal

pub returns-clause-bad_partition : goal.returns-clause-bad_partition
returns-clause-bad_partition g c =
    error-both_ok _ _ _ _ _ c.in_ok-check.was refl c.check.ensures.bad_partition
