use Rattle.std.proofs.Common.{◌∙◌, refl, ap}
use Rattle.worker_pool.proofs.Checks.{error-both_ok}
use Rattle.worker_pool.proofs.standing.standing_pool.StandingPool.open.Goals as goal

pub returns-clause-bad_workers : goal.returns-clause-bad_workers
returns-clause-bad_workers g c =
    error-both_ok _ _ _ _ _ c.in_ok-opened.was refl c.«open».ensures.bad_workers

pub returns-clause-bad_partition : goal.returns-clause-bad_partition
returns-clause-bad_partition g c =
    error-both_ok _ _ _ _ _ c.in_ok-opened.was refl c.«open».ensures.bad_partition

pub returns-clause-workers : goal.returns-clause-workers
returns-clause-workers g c =
    ap g.Q.Queue.worker_count c.in_ok-start_workers.ensures.queue
    ∙ c.in_ok-opened.ensures.opened.workers
