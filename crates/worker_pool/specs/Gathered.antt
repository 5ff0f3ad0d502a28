-- What the workers of a pool have brought home.
use Rattle.std.specs.Prelude.{◌≡◌, ℕ, ◌+◌, ◌≤◌, [], ◌∷◌, ◌++◌, length, All}
use Rattle.std.specs.Prelude.{vec_len, vec_capacity}
use Rattle.std.specs.List.{flat_map}
use Rattle.worker_pool.specs.declared.closing.gathered.Gathered.{Gathered}
use Rattle.worker_pool.specs.declared.job.Job as job
use Rattle.worker_pool.specs.declared.queues.queue.Queue as queue
use Rattle.worker_pool.specs.declared.working.worker.WorkerState.{WorkerState}
use Rattle.worker_pool.specs.Accounts.{Account, counted}
use Rattle.worker_pool.specs.Laws.{law_of}

module _ {J A Q C O N B D S P : Type 0} where
  -- how many workers have come home
  abbrev pub count_of : Gathered J A Q C O N B D S P → ℕ
  count_of gathered = length gathered.rows.items

  -- no worker has come home
  pub record IsEmpty (gathered : Gathered J A Q C O N B D S P) : Type 0 where
    pub no_rows : gathered.rows.items ≡ []
    pub no_wakers : gathered.wakers.items ≡ []
    pub no_lists : gathered.lists.items ≡ []
    pub none_refused : gathered.refused ≡ 0

  -- there is room for what `more` further workers bring
  pub record HasRoom (more : ℕ) (gathered : Gathered J A Q C O N B D S P) : Type 0 where
    pub for_rows : vec_len gathered.rows + more ≤ vec_capacity gathered.rows
    pub for_wakers : vec_len gathered.wakers + more ≤ vec_capacity gathered.wakers
    pub for_lists : vec_len gathered.lists + more ≤ vec_capacity gathered.lists

  module _ (at : queue.Ghosts Q J A B D S P) (queue : Q) where
    -- one more worker has come home, with this state
    pub record Adds (state : WorkerState J A Q C O N B D S P)
        (before after : Gathered J A Q C O N B D S P) : Type 0 where
      pub waker : D
      pub idle : at.is_waker queue waker
      pub ours : at.is_row queue (at.row_of state.seat)
      pub rows : after.rows.items ≡ before.rows.items ++ at.row_of state.seat ∷ []
      pub wakers : after.wakers.items ≡ before.wakers.items ++ waker ∷ []
      pub lists : after.lists.items ≡ before.lists.items ++ state.outs ∷ []
      pub refused : after.refused ≡ counted (before.refused + state.refused)

    -- Each worker has brought a seat at the rows, a seat at the point, and a list. The lists have
    -- the account of the jobs that were taken through the seats: some jobs were put in, and the
    -- others ran.
    pub record HasGathered (law : job.Ghosts J A C O N) (ctx : C)
        (gathered : Gathered J A Q C O N B D S P) : Type 0 where
      pub ours : All (at.is_row queue) gathered.rows.items
      pub idle : All (at.is_waker queue) gathered.wakers.items
      pub wakers_many : length gathered.wakers.items ≡ count_of gathered
      pub lists_many : length gathered.lists.items ≡ count_of gathered
      pub account : Account at.keeps_accounts (law_of law ctx)
          (flat_map at.takes_of gathered.rows.items) (flat_map at.puts_of gathered.rows.items)
          (flat_map (λ list. list.items) gathered.lists.items) [] gathered.refused
