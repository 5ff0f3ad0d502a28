use Rattle.std.proofs.Common.{ap, refl, ◌∙◌}
use Rattle.worker_pool.proofs.StopWords.{told-cancelled}
use Rattle.worker_pool.proofs.Tallies.{account-none}
use Rattle.worker_pool.proofs.opening.lending.LendsCallerOpening.run.Goals as goal

pub call-requires-clause-caller : goal.call-requires-clause-caller
call-requires-clause-caller g c =
    let fresh = c.requires.1 in
    let unused = fresh.unused in
    record {
      stop_word = c.requires.0;
      ready = fresh.ready;
      few = c.requires.2;
      stop = fresh.stored_none;
      jobs = record {
        took_none = unused.took_none;
        account = rw unused.none_refused (account-none _ _ _ _ _ (λ on. unused.no_roots)
            unused.put_none unused.no_outs);
      };
    }

pub call-requires-clause-stays : goal.call-requires-clause-stays
call-requires-clause-stays g c = λ before after met is same. c.requires.4 before after met is same

pub tell_all-requires-clause-seats : goal.tell_all-requires-clause-seats
tell_all-requires-clause-seats g c =
    rw c.call.ensures.stays.same.queue at c.call.ensures.stays.still.ready.seats

pub returns : goal.returns
returns g c =
    let fresh = c.requires.1 in
    let caller = c.call.ensures.stays.still in
    let told = c.tell_all.ensures in (
      _,
      _,
      c.call.ensures.called,
      record {
        no_roots = fresh.unused.no_roots;
        workers = refl;
        started = refl;
        stop = fresh.stored_none;
        ready = told.ready;
        cancelled = told-cancelled _ _ caller.stop;
        closing = told.stored;
        jobs = record {
          took_none = λ on. ap g.R.Rows.takes_of told.row ∙ caller.jobs.took_none on;
          account = rw told.row (rw c.call.ensures.stays.same.ctx at caller.jobs.account);
        };
        roots = refl;
        taken_over = record { row = told.row; outs = refl; refused = refl };
      },
    )
