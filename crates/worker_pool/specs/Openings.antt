-- What a pool begins with.
use Rattle.std.specs.Prelude.{◌≡◌, ℕ, ◌+◌, ◌≤◌, ◌↔◌, List, [], length, map, All, IsNone, IfSome}
use Rattle.std.specs.Prelude.{vec_len, vec_capacity}
use Rattle.std.specs.List.{range_with_len}
use Rattle.rand_core.specs.Pcg32Seed.{pcg32_seed}
use Rattle.rand_pcg.specs.Lcg.{Lcg}
use Rattle.rand_pcg.specs.Pcg.{pcg32_of_seed}
use Rattle.run_queue.specs.Limits.{most_rows}
use Rattle.steal_walk.specs.Partition.{RowRange}
use Rattle.worker_pool.specs.declared.job.Job as job
use Rattle.worker_pool.specs.declared.lists.Lists as lists
use Rattle.worker_pool.specs.declared.opening.open.Opened.{Opened}
use Rattle.worker_pool.specs.declared.queues.queue.Queue as queue
use Rattle.worker_pool.specs.declared.working.worker.WorkerState.{WorkerState}
use Rattle.worker_pool.specs.OpenerStates.{IsFresh}
use Rattle.worker_pool.specs.Gathered.{IsEmpty, HasRoom}
use Rattle.worker_pool.specs.Setup.{home_of, whole}
use Rattle.worker_pool.specs.Works.{IsAtWork}

-- the generator of random words that a number seeds
abbrev pub seeded_by : ℕ → Lcg
seeded_by number = pcg32_of_seed (pcg32_seed 16 number)

module _ {Q J A B D S P : Type 0} (at : queue.Ghosts Q J A B D S P) (queue : Q) (first : ℕ) where
  -- seats at the rows with consecutive numbers, through which no job went
  pub record AreRows (rows : List B) : Type 0 where
    pub ours : All (at.is_row queue) rows
    pub numbers : map at.row_number rows ≡ range_with_len first (length rows)
    pub untouched : at.keeps_accounts
        → All (λ row. (at.puts_of row ≡ []) × (at.takes_of row ≡ [])) rows

  -- seats at the point with consecutive numbers
  pub record AreWakers (wakers : List D) : Type 0 where
    pub ours : All (at.is_waker queue) wakers
    pub numbers : map at.waker_number wakers ≡ range_with_len first (length wakers)

module _ {Q J A B D S P C O N : Type 0} (at : queue.Ghosts Q J A B D S P)
    (ranges : List RowRange) where
  -- The worker's seat has its number, which also seeds its random words. Its home rows are those
  -- that the setup gives to this number.
  pub record IsByNumber (count : ℕ) (state : WorkerState J A Q C O N B D S P) : Type 0 where
    pub row_number : at.row_number (at.row_of state.seat) ≡ state.number
    pub random : state.random ≡ seeded_by state.number
    pub no_home : IsNone state.home ↔ (home_of count ranges state.number ≡ whole count)
    pub home : IfSome state.home (λ n. n.rows ≡ home_of count ranges state.number)

  -- A pool of `count` workers in which nothing was done. Each worker has a state, by number, and
  -- there is room for all that comes home.
  pub record IsOpened {L K : Type 0} (law : job.Ghosts J A C O N) (list : lists.Ghosts L O A K)
      (count : ℕ) (opened : Opened J A Q L C O N B D S P K) : Type 0 where
    pub workers : at.worker_count opened.pool.queue ≡ count
    pub opener : IsFresh at list opened.pool opened.opener
    pub opener_random : opened.opener.seats.random ≡ seeded_by count
    pub at_work : (ctx : C) → All (IsAtWork at law opened.pool ctx) opened.states.items
    pub numbers : map (λ state. state.number) opened.states.items ≡ range_with_len 0 count
    pub many : vec_len opened.states ≡ at.worker_count opened.pool.queue
    pub few : vec_len opened.states ≤ most_rows
    pub by_number : All (IsByNumber count) opened.states.items
    pub none_ended : opened.ended.items ≡ []
    pub room_for_ended : vec_len opened.states ≤ vec_capacity opened.ended
    pub none_gathered : IsEmpty opened.gathered
    pub room_to_gather : HasRoom (count + 1) opened.gathered
