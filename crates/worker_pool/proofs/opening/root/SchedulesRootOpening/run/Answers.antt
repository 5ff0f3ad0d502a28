use Rattle.worker_pool.proofs.Tallies.{account-none}
use Rattle.worker_pool.proofs.opening.root.SchedulesRootOpening.run.Goals as goal

pub schedule-requires-clause-opener : goal.schedule-requires-clause-opener
schedule-requires-clause-opener g c =
    let fresh = c.requires.0 in
    let unused = fresh.unused in
    record {
      ready = fresh.ready;
      jobs = record {
        took_none = unused.took_none;
        account = rw unused.none_refused (account-none _ _ _ _ _ (λ on. unused.no_roots)
            unused.put_none unused.no_outs);
      };
    }
