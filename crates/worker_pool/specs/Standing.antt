-- What contracts say of a pool that stays open between calls.
use Rattle.std.specs.Prelude.{◌≡◌, ℕ, ◌+◌, ◌≤◌, List, All, false, vec_len, vec_capacity}
use Rattle.worker_pool.specs.declared.job.Job as job
use Rattle.worker_pool.specs.declared.lists.Lists as lists
use Rattle.worker_pool.specs.declared.queues.queue.Queue as queue
use Rattle.worker_pool.specs.declared.standing.owned_pool.OwnedPool.{OwnedPool}
use Rattle.worker_pool.specs.declared.standing.standing_pool.StandingPool.{StandingPool}
use Rattle.worker_pool.specs.Gathered.{IsEmpty, HasRoom}
use Rattle.worker_pool.specs.OpenerStates.{IsOpener, roots_by}
use Rattle.worker_pool.specs.Stops.{open_word}
use Rattle.worker_pool.specs.Works.{IsPool, IsAtWork}

module _ {J A Q L C O N B D S P K : Type 0} where
  -- the pool and the context of its jobs, which its threads own together
  abbrev pub owned_by : StandingPool J A Q L C O N B D S P K → OwnedPool J A Q C O N B D S P
  owned_by pool = pool.shared.value.place

  -- the context of its jobs
  abbrev pub ctx_of : StandingPool J A Q L C O N B D S P K → C
  ctx_of pool = (owned_by pool).ctx

  -- its queue
  abbrev pub queue_in : StandingPool J A Q L C O N B D S P K → Q
  queue_in pool = (owned_by pool).pool.queue

  -- how many workers were started
  abbrev pub started_in : StandingPool J A Q L C O N B D S P K → ℕ
  started_in pool = pool.opener.seats.started

  -- the jobs that were scheduled in it, in order
  abbrev pub roots_in : StandingPool J A Q L C O N B D S P K → List J
  roots_in pool = roots_by pool.opener

  -- both are one pool, with the same workers
  pub record IsOnePool (before after : StandingPool J A Q L C O N B D S P K) : Type 0 where
    pub owned : owned_by after ≡ owned_by before
    pub started : started_in after ≡ started_in before

  module _ (at : queue.Ghosts Q J A B D S P) (law : job.Ghosts J A C O N)
      (list : lists.Ghosts L O A K) where
    -- The pool is open and was not cancelled. Its opener has the account of the jobs that were
    -- scheduled. Each worker of the setup has a thread that works there, or its state is home, and
    -- there is room for all states to come home.
    pub record IsStanding (pool : StandingPool J A Q L C O N B D S P K) : Type 0 where
      pub of_pool : IsPool at (owned_by pool).pool
      pub opener : IsOpener at law list (queue_in pool) (ctx_of pool) pool.opener
      pub open_yet : at.stored_of pool.opener.seats.seat ≡ open_word
      pub not_cancelled : pool.opener.cancelled ≡ false
      pub ours : All (λ child. child.handle.promise.0.value ≡ owned_by pool) pool.threads.items
      pub home : All (λ home. IsAtWork at law (owned_by pool).pool (ctx_of pool) home.state)
          pool.ended.items
      pub started : started_in pool ≡ vec_len pool.threads
      pub every_worker : vec_len pool.threads + vec_len pool.ended
          ≡ at.worker_count (queue_in pool)
      pub room : at.worker_count (queue_in pool) ≤ vec_capacity pool.ended
      pub none_gathered : IsEmpty pool.gathered
      pub gathered_room : HasRoom (at.worker_count (queue_in pool) + 1) pool.gathered
