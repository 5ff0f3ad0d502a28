-- The jobs that were scheduled.
use Rattle.std.specs.Prelude.{List, [], ◌∷◌, ◌++◌}
use Rattle.worker_pool.specs.declared.noted.History.{History}
use Rattle.worker_pool.specs.declared.noted.History.TheVariants as history
use Rattle.worker_pool.specs.declared.noted.Noted.{Noted}

module _ {J : Type 0} where
  -- the jobs of a history, in order
  abbrev pub jobs_of : History J → List J
  jobs_of history.Nothing = []
  jobs_of (history.After' p earlier job) = jobs_of earlier ++ job.value ∷ []

  -- the jobs that were noted, in order
  abbrev pub jobs_in : Noted J → List J
  jobs_in noted = jobs_of noted.jobs.value
