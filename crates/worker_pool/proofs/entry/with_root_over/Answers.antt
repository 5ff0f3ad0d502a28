use Rattle.std.proofs.Common.{refl}
use Rattle.worker_pool.proofs.Checks.{error-both_ok}
use Rattle.worker_pool.proofs.entry.with_root_over.Goals as goal

pub close-requires-clause-took_none : goal.close-requires-clause-took_none
close-requires-clause-took_none g c =
    c.run_first-homes.ensures.left.worked.still.jobs.took_none

pub returns-clause-bad_workers : goal.returns-clause-bad_workers
returns-clause-bad_workers g c =
    error-both_ok _ _ _ _ _ c.in_ok-pool.was refl c.«open».ensures.bad_workers

pub returns-clause-bad_partition : goal.returns-clause-bad_partition
returns-clause-bad_partition g c =
    error-both_ok _ _ _ _ _ c.in_ok-pool.was refl c.«open».ensures.bad_partition

pub returns-clause-account : goal.returns-clause-account
returns-clause-account g c =
    let left = c.run_first-homes.ensures.left in
    rw left.alone at (c.close.ensures.account _ left.worked.still.jobs.account)

pub returns-clause-none_left : goal.returns-clause-none_left
returns-clause-none_left g c =
    c.close.ensures.none_left c.run_first-homes.ensures.left.not_cancelled
