-- What contracts say about callers.
use Rattle.std.specs.Prelude.{◌≡◌, ◌↔◌, ℕ, ◌≤◌, List, [], IsTrue}
use Rattle.event_count.specs.declared.wait_point.WaitPoint as wait_point
use Rattle.run_queue.specs.declared.rows.Rows as rows
use Rattle.worker_pool.specs.declared.job.Job as job
use Rattle.worker_pool.specs.declared.lists.Lists as lists
use Rattle.worker_pool.specs.declared.caller.Caller.{Caller}
use Rattle.worker_pool.specs.declared.opening.opener_state.OpenerState.{OpenerState}
use Rattle.worker_pool.specs.declared.queues.job_queue.JobQueue.{JobQueue}
use Rattle.worker_pool.specs.declared.queues.job_queue.job_seat.JobSeat.{JobSeat}
use Rattle.worker_pool.specs.OpenerStates.{HasAccount, IsUnused, roots_by}
use Rattle.worker_pool.specs.Seats.{HasStop, IsReady}
use Rattle.worker_pool.specs.Stops.{stored_of, open_word, closing_word, last_word}
use Rattle.worker_pool.specs.Stops.{cancelled_word}

module _ {J A W R L C O N T S K : Type 0} where
  -- the jobs that were scheduled through the caller, in order
  abbrev pub roots_of : Caller J A W R L C O N T S K → List J
  roots_of caller = roots_by caller.opener

  -- how many workers the caller's pool has started
  abbrev pub started_of : Caller J A W R L C O N T S K → ℕ
  started_of caller = caller.opener.seats.started

  -- how many workers the caller's pool was set up with
  abbrev pub workers_of : Caller J A W R L C O N T S K → ℕ
  workers_of caller = caller.queue.now.workers

  -- what was last stored in the stop word through the caller
  abbrev pub stop_of : Caller J A W R L C O N T S K → ℕ
  stop_of caller = stored_of caller.opener.seats.seat.stop

  -- the pool was cancelled through the caller
  abbrev pub IsCancelled : Caller J A W R L C O N T S K → Type 0
  IsCancelled caller = stop_of caller ≡ cancelled_word

  -- both are callers of one pool
  pub record IsSamePool (caller then : Caller J A W R L C O N T S K) : Type 0 where
    pub queue : then.queue.now ≡ caller.queue.now
    pub stop : then.stop.now ≡ caller.stop.now
    pub ctx : then.ctx.now ≡ caller.ctx.now
    pub started : started_of then ≡ started_of caller

  module _ (row : rows.Ghosts R J A S) (point : wait_point.Ghosts W A T)
      (law : job.Ghosts J A C O N) (list : lists.Ghosts L O A K) where
    -- The caller's seats belong to its pool, and the caller has woken the workers that it has to
    -- wake. It has the account of the jobs that were scheduled.
    pub record IsCaller (caller : Caller J A W R L C O N T S K) : Type 0 where
      pub stop_word : HasStop row point caller.queue.now caller.stop.now
      pub ready : IsReady row point caller.queue.now caller.opener.seats.seat
      pub few : started_of caller ≤ workers_of caller
      pub stop : stop_of caller ≡ last_word caller.opener.cancelled
      pub jobs : HasAccount row.keeps_accounts list (row.puts_of caller.opener.seats.seat.row)
          (row.takes_of caller.opener.seats.seat.row) law caller.ctx.now caller.opener

    -- the caller is still a caller, of the same pool
    pub record StaysCaller (caller then : Caller J A W R L C O N T S K) : Type 0 where
      pub still : IsCaller then
      pub same : IsSamePool caller then

  -- the opener's row seat, outs and refusals are the caller's
  pub record TakesOver (caller : Caller J A W R L C O N T S K)
      (opener : OpenerState J A (JobSeat J A W R T S) L C O N K) : Type 0 where
    pub row : opener.seats.seat.row ≡ caller.opener.seats.seat.row
    pub outs : opener.outs ≡ caller.opener.outs
    pub refused : opener.refused ≡ caller.opener.refused

  module _ (row : rows.Ghosts R J A S) (point : wait_point.Ghosts W A T)
      (list : lists.Ghosts L O A K) where
    -- an opener that can be lent: its seat belongs to the queue, and nothing was done yet
    pub record IsToLend (queue : JobQueue W R)
        (opener : OpenerState J A (JobSeat J A W R T S) L C O N K) : Type 0 where
      pub ready : IsReady row point queue opener.seats.seat
      pub stored_none : stored_of opener.seats.seat.stop ≡ open_word
      pub unused : IsUnused row.keeps_accounts list (row.puts_of opener.seats.seat.row)
          (row.takes_of opener.seats.seat.row) opener

    -- The opener was lent to the body as a caller of a pool with `count` started workers, and came
    -- back. It has the account of the jobs that were scheduled meanwhile, and knows whether the pool
    -- was cancelled. The pool is closing, and the workers that wait were woken.
    pub record IsLent (law : job.Ghosts J A C O N) (queue : JobQueue W R) (ctx : C) (count : ℕ)
        (before after : Caller J A W R L C O N T S K)
        (opener : OpenerState J A (JobSeat J A W R T S) L C O N K) : Type 0 where
      pub no_roots : roots_of before ≡ []
      pub workers : workers_of before ≡ queue.workers
      pub started : started_of before ≡ count
      pub stop : stop_of before ≡ open_word
      pub ready : IsReady row point queue opener.seats.seat
      pub cancelled : IsTrue opener.cancelled ↔ IsCancelled after
      pub closing : stored_of opener.seats.seat.stop ≡ closing_word opener.cancelled
      pub jobs : HasAccount row.keeps_accounts list (row.puts_of opener.seats.seat.row)
          (row.takes_of opener.seats.seat.row) law ctx opener
      pub roots : roots_by opener ≡ roots_of after
      pub taken_over : TakesOver after opener
