use Rattle.std.proofs.Common.{◌∙◌, arith, refl}
use Rattle.std.proofs.lemmas.Bool.{false_from_ne_true}
use Rattle.worker_pool.proofs.Checks.{error-both_ok}
use Rattle.worker_pool.proofs.entry.with_pool_limited.Goals as goal

pub run_first-homes-requires-clause-begins : goal.run_first-homes-requires-clause-begins
run_first-homes-requires-clause-begins g c κs within =
    let opened = c.in_ok-pool.ensures.opened in
    let many = opened.many in
    let fresh = opened.opener in
    λ started most few. (
      fresh.of_pool.stop,
      record {
        ready = fresh.ready;
        stored_none = fresh.stored_none;
        unused = fresh.unused;
      },
      omega arith,
      (λ caller is same. c.requires.body caller is (rw same few)),
      (λ before after met is same. c.requires.stays before after met is (rw same few)),
    )

pub returns-clause-bad_workers : goal.returns-clause-bad_workers
returns-clause-bad_workers g c =
    error-both_ok _ _ _ _ _ c.in_ok-pool.was refl c.«open».ensures.bad_workers

pub returns-clause-bad_partition : goal.returns-clause-bad_partition
returns-clause-bad_partition g c =
    error-both_ok _ _ _ _ _ c.in_ok-pool.was refl c.«open».ensures.bad_partition

pub returns-clause-account : goal.returns-clause-account
returns-clause-account g c =
    let left = c.run_first-homes.ensures.left in
    let lent = left.3 in (
      left.0,
      left.1,
      left.2,
      record {
        no_roots = lent.no_roots;
        workers = lent.workers ∙ c.in_ok-pool.ensures.opened.workers;
        started = rw lent.started c.run_first-homes.ensures.few;
        stop = lent.stop;
        none_left = λ kept. c.close.ensures.none_left
            (false_from_ne_true _ (λ on. kept (lent.cancelled.0 on)));
        handed_back = λ on.
            let same = lent.taken_over in
            rw (same.row, same.outs, same.refused) at
            (c.close.ensures.handed_back (lent.cancelled.1 on));
        account = rw lent.roots at (c.close.ensures.account _ lent.jobs.account);
      },
    )
