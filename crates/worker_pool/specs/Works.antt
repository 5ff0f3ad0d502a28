-- What a worker works with, and what it has done.
use Rattle.std.specs.Prelude.{◌≡◌, ℕ, ◌<◌, ◌≤◌, [], Option, IfSome}
use Rattle.worker_pool.specs.declared.job.Job as job
use Rattle.worker_pool.specs.declared.queues.queue.Queue as queue
use Rattle.worker_pool.specs.declared.working.home_rows.HomeRows.{HomeRows}
use Rattle.worker_pool.specs.declared.working.pool.Pool.{Pool}
use Rattle.worker_pool.specs.declared.working.worker.WorkerState.{WorkerState}
use Rattle.worker_pool.specs.Accounts.{Account}
use Rattle.worker_pool.specs.Laws.{law_of}
use Rattle.worker_pool.specs.Setup.{IsPoolSize}
use Rattle.worker_pool.specs.Stops.{open_word}

-- the partition, if there is one, ends inside a pool of this many workers
abbrev pub IsInside : {A : Type 0} → (workers : ℕ) → Option (HomeRows A) → Type 0
IsInside workers home = IfSome home (λ n. n.rows.limit ≤ workers)

-- the pool has the stop of its queue, and the coprimes for walks over all rows
pub record IsPool {J A Q B D S P : Type 0} (at : queue.Ghosts Q J A B D S P)
    (pool : Pool J A Q B D S P) : Type 0 where
  pub size : IsPoolSize (at.worker_count pool.queue)
  pub stop : at.has_stop pool.queue pool.stop
  pub walks : pool.coprimes ≡ at.worker_count pool.queue

module _ {J A Q C O N B D S P : Type 0} (at : queue.Ghosts Q J A B D S P) where
  -- The worker's seat belongs to the pool, and the worker has stored nothing in the stop word. It
  -- has the account of the jobs that it took: some jobs were put into its row, and the others ran.
  pub record IsAtWork (law : job.Ghosts J A C O N) (pool : Pool J A Q B D S P) (ctx : C)
      (state : WorkerState J A Q C O N B D S P) : Type 0 where
    pub of_pool : IsPool at pool
    pub ready : at.is_ready pool.queue state.seat
    pub owner : at.row_number (at.row_of state.seat) < at.worker_count pool.queue
    pub stored_none : at.stored_of state.seat ≡ open_word
    pub home : IsInside (at.worker_count pool.queue) state.home
    pub account : Account at.keeps_accounts (law_of law ctx)
        (at.takes_of (at.row_of state.seat)) (at.puts_of (at.row_of state.seat)) state.outs.items []
        state.refused

  -- The worker has ended, and its number is unchanged. It had found the pool cancelled, or it had
  -- found the pool closing and since then each row empty.
  pub record HasEnded (pool : Pool J A Q B D S P) (before after : WorkerState J A Q C O N B D S P)
      : Type 0 where
    pub number : after.number ≡ before.number
    pub may_end : at.may_end pool.queue after.seat
