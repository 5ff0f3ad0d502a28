-- What the thread that has scheduled a job knows of the pool.
use Rattle.std.specs.Prelude.{◌≡◌, List, [], ◌∷◌, ◌++◌, false}
use Rattle.event_count.specs.Seats.{seat_id}
use Rattle.waking_rows.specs.Seats.{home_of}
use Rattle.worker_pool.specs.declared.job.Job as job
use Rattle.worker_pool.specs.declared.lists.Lists as lists
use Rattle.worker_pool.specs.declared.opening.opener_state.OpenerState.{OpenerState}
use Rattle.worker_pool.specs.declared.opening.root.Scheduled.{Scheduled}
use Rattle.worker_pool.specs.declared.queues.counted_queue.CountedSeat.{CountedSeat}
use Rattle.worker_pool.specs.declared.queues.queue.Queue as queue
use Rattle.worker_pool.specs.declared.working.pool.Pool.{Pool}
use Rattle.worker_pool.specs.Noted.{jobs_in}
use Rattle.worker_pool.specs.OpenerStates.{HasWorked, roots_by}

module _ {J S : Type 0} where
  -- the jobs that were scheduled, in order
  abbrev pub scheduled_in : Scheduled J S → List J
  scheduled_in scheduled = jobs_in scheduled.jobs.value

  -- the scheduling thread's seat
  abbrev pub seat_in : Scheduled J S → S
  seat_in scheduled = scheduled.seat.value

  -- the last job that was scheduled is this one
  pub record HasScheduled (job : J) (scheduled : Scheduled J S) : Type 0 where
    pub earlier : List J
    pub last : scheduled_in scheduled ≡ earlier ++ job ∷ []

  -- the job was scheduled last, in this queue
  pub record HasScheduledIn {Q A B D P : Type 0} (at : queue.Ghosts Q J A B D S P) (queue : Q)
      (job : J) (scheduled : Scheduled J S) : Type 0 where
    pub has : HasScheduled job scheduled
    pub ready : at.is_ready queue (seat_in scheduled)

-- the opener has worked in the pool, this job alone was scheduled, and the pool was not cancelled
pub record HasRunRoot {J A Q B D S P L C O N K : Type 0} (at : queue.Ghosts Q J A B D S P)
    (law : job.Ghosts J A C O N) (list : lists.Ghosts L O A K) (pool : Pool J A Q B D S P) (ctx : C)
    (root : J) (opener : OpenerState J A S L C O N K) : Type 0 where
  pub worked : HasWorked at law list pool ctx opener
  pub alone : roots_by opener ≡ root ∷ []
  pub not_cancelled : opener.cancelled ≡ false

-- the scheduling thread's seats at the rows and at the point are seats of one count
abbrev pub IsOnOneCount : {J : Type 0} → Scheduled J (CountedSeat J) → Type 0
IsOnOneCount scheduled =
    (home_of (seat_in scheduled).row).1 ≡ seat_id (seat_in scheduled).waker.seat
