-- What the opener of a pool works with, and what it has done.
use Rattle.std.specs.Prelude.{◌≡◌, List, []}
use Rattle.worker_pool.specs.declared.job.Job as job
use Rattle.worker_pool.specs.declared.lists.Lists as lists
use Rattle.worker_pool.specs.declared.opening.opener_state.OpenerState.{OpenerState}
use Rattle.worker_pool.specs.declared.queues.queue.Queue as queue
use Rattle.worker_pool.specs.declared.working.pool.Pool.{Pool}
use Rattle.worker_pool.specs.Accounts.{Account}
use Rattle.worker_pool.specs.Laws.{law_of}
use Rattle.worker_pool.specs.Noted.{jobs_in}
use Rattle.worker_pool.specs.Stops.{open_word, closing_word}
use Rattle.worker_pool.specs.Works.{IsPool}

-- the jobs that were scheduled by the opener, in order
abbrev pub roots_by : {J A S L C O N K : Type 0} → OpenerState J A S L C O N K → List J
roots_by opener = jobs_in opener.noted

module _ {J A S L C O N K : Type 0} (keeps : Type 0) (list : lists.Ghosts L O A K)
    (puts takes : List J) where
  -- nothing was done yet: no job was scheduled, passed on or taken out, and none ran
  pub record IsUnused (opener : OpenerState J A S L C O N K) : Type 0 where
    pub no_roots : roots_by opener ≡ []
    pub put_none : keeps → puts ≡ []
    pub took_none : keeps → takes ≡ []
    pub no_outs : list.items_of opener.outs ≡ []
    pub none_refused : opener.refused ≡ 0

  -- The opener has taken out no job. It has the account of the jobs that were scheduled: they came
  -- in, the jobs in `puts` were passed on, and the others ran.
  pub record HasAccount (law : job.Ghosts J A C O N) (ctx : C)
      (opener : OpenerState J A S L C O N K) : Type 0 where
    pub took_none : keeps → takes ≡ []
    pub account : Account keeps (law_of law ctx) (roots_by opener) puts
        (list.items_of opener.outs) [] opener.refused

module _ {Q J A B D S P L C O N K : Type 0} (at : queue.Ghosts Q J A B D S P) where
  -- the number of started workers, what was stored in the stop word, and whether the pool was
  -- cancelled are unchanged
  pub record IsKept (before after : OpenerState J A S L C O N K) : Type 0 where
    pub started : after.seats.started ≡ before.seats.started
    pub stored : at.stored_of after.seats.seat ≡ at.stored_of before.seats.seat
    pub cancelled : after.cancelled ≡ before.cancelled

  -- the opener's seat belongs to the queue, and the opener has the account of its jobs
  pub record IsOpener (law : job.Ghosts J A C O N) (list : lists.Ghosts L O A K) (queue : Q)
      (ctx : C) (opener : OpenerState J A S L C O N K) : Type 0 where
    pub ready : at.is_ready queue opener.seats.seat
    pub jobs : HasAccount at.keeps_accounts list (at.puts_of (at.row_of opener.seats.seat))
        (at.takes_of (at.row_of opener.seats.seat)) law ctx opener

  -- the opener's seat belongs to the pool, and nothing was done yet
  pub record IsFresh (list : lists.Ghosts L O A K) (pool : Pool J A Q B D S P)
      (opener : OpenerState J A S L C O N K) : Type 0 where
    pub of_pool : IsPool at pool
    pub ready : at.is_ready pool.queue opener.seats.seat
    pub stored_none : at.stored_of opener.seats.seat ≡ open_word
    pub unused : IsUnused at.keeps_accounts list (at.puts_of (at.row_of opener.seats.seat))
        (at.takes_of (at.row_of opener.seats.seat)) opener

  -- The opener has the account of its jobs. The pool is closing, and the workers that wait were
  -- woken.
  pub record HasWorked (law : job.Ghosts J A C O N) (list : lists.Ghosts L O A K)
      (pool : Pool J A Q B D S P) (ctx : C) (opener : OpenerState J A S L C O N K) : Type 0 where
    pub still : IsOpener law list pool.queue ctx opener
    pub closing : at.stored_of opener.seats.seat ≡ closing_word opener.cancelled
