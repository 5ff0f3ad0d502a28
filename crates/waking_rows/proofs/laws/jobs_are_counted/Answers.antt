use Rattle.waking_rows.proofs.laws.jobs_are_counted.Goals as goal

pub returns : goal.returns
returns g c = c.ready_jobs_fit.ensures
