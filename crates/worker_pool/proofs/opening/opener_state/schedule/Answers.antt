use Rattle.std.proofs.Common.{rules, refl, ap, sym, ◌∙◌, []}
use Rattle.std.proofs.Common.{◌++◌, ◌∷◌}
use Rattle.worker_pool.specs.OpenerStates.{roots_by}
use Rattle.worker_pool.proofs.Tallies.{account-passed, account-more}
use Rattle.worker_pool.proofs.opening.opener_state.schedule.Goals as goal

pub returns-in_default-clause-opener : goal.returns-in_default-clause-opener
returns-in_default-clause-opener g c =
    let jobs = c.requires.opener.jobs in
    let passed = c.in_default.ensures in
    record {
      ready = passed.ready.0;
      jobs = record {
        took_none = λ on. passed.takes on ∙ jobs.took_none on;
        account = account-passed _ _ c.args.job _ _ _ _ _ _ _ jobs.account passed.puts
            (λ on. c.add.ensures);
      };
    }

pub returns-clause-opener : goal.returns-clause-opener
returns-clause-opener g c =
    let jobs = c.requires.opener.jobs in
    let returned = c.in-Err.ensures in
    let ran = c.begin-refused.ensures in
    record {
      ready = ran.ready.0;
      jobs = record {
        took_none = λ on. ran.takes on ∙ (returned.takes on ∙ jobs.took_none on);
        account = account-more _ _ c.in-Err.job _ _ _ _ _ _ _ _ _ _ _ _ jobs.account refl
            returned.puts
            (λ on. c.add.ensures
            ∙ ap (λ job. roots_by c.args.opener.now ++ job ∷ []) (sym returned.returned))
            ran.ran (search rules);
      };
    }
