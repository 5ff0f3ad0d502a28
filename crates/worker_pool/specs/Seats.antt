-- What the seats at any rows and any wait point are while the threads of a pool work.
use Rattle.std.specs.Prelude.{◌≡◌, ◌+◌, ◌<◌, ◌≤◌, [], false}
use Rattle.atomic_table.specs.declared.shared.Shared.{Shared}
use Rattle.event_word.specs.declared.phase.Phase.TheVariants.{Running, Pre}
use Rattle.event_count.specs.declared.wait_point.WaitPoint as wait_point
use Rattle.run_queue.specs.declared.rows.Rows as rows
use Rattle.run_queue.specs.Limits.{most_rows}
use Rattle.worker_pool.specs.declared.queues.job_queue.JobQueue.{JobQueue}
use Rattle.worker_pool.specs.declared.queues.job_queue.job_seat.JobSeat.{JobSeat}
use Rattle.worker_pool.specs.declared.queues.job_queue.stop.StopRule.{StopRule}
use Rattle.worker_pool.specs.declared.queues.job_queue.stop_view.StopView.{StopView}
use Rattle.worker_pool.specs.Stops.{IsStopTable, IsStopSeatOf, stored_of}
use Rattle.worker_pool.specs.Told.{told_of}

module _ {W A T : Type 0} (point : wait_point.Ghosts W A T) where
  -- a seat of this point whose thread is running and owes no waiter a wake
  pub record IsIdle (at : W) (seat : T) : Type 0 where
    pub ours : point.point_of seat ≡ point.identity_of at
    pub running : point.phase_of seat ≡ Running
    pub owes_none : point.owing_of seat ≡ []

  -- the seat of one of this point's waiters, which has entered and owes no waiter a wake
  pub record HasEnteredAt (at : W) (seat : T) : Type 0 where
    pub ours : point.point_of seat ≡ point.identity_of at
    pub waiter : point.number_of seat < point.waiter_count at
    pub pre : point.phase_of seat ≡ Pre
    pub owes_none : point.owing_of seat ≡ []

module _ {R J A S : Type 0} (row : rows.Ghosts R J A S) where
  -- a seat of these rows
  abbrev pub IsRowOf : R → S → Type 0
  IsRowOf at seat = row.rows_of seat ≡ row.identity_of at

module _ {R J A S W T : Type 0} (row : rows.Ghosts R J A S) (point : wait_point.Ghosts W A T) where
  -- There is a row and a waiter for each worker of the setup. The rows and the point have a seat
  -- for each of these, and one more seat for the opener.
  pub record IsJobQueue (queue : JobQueue W R) : Type 0 where
    pub some : 0 < queue.workers
    pub few : queue.workers ≤ most_rows
    pub rows : row.row_count queue.rows ≡ queue.workers
    pub row_seats : row.seat_count queue.rows ≡ queue.workers + 1
    pub waiters : point.waiter_count queue.point ≡ queue.workers
    pub wakers : point.seat_count queue.point ≡ queue.workers + 1

  -- the queue has this stop word
  pub record HasStop (queue : JobQueue W R)
      (stop : Shared (Unit {0}) StopView (Unit {0}) StopRule) : Type 0 where
    pub sized : IsJobQueue queue
    pub words : IsStopTable stop
    pub same : stop ≡ queue.stop.value

  -- The seat belongs to the queue, and its parts at the rows and at the point have one number.
  pub record IsPlaced (queue : JobQueue W R) (seat : JobSeat J A W R T S) : Type 0 where
    pub sized : IsJobQueue queue
    pub ours : IsRowOf row queue.rows seat.row
    pub one_number : point.number_of seat.waker ≡ row.number_of seat.row
    pub stop : IsStopSeatOf queue.stop.value seat.stop

  -- the seat belongs to the queue, and its thread is running and owes no waiter a wake
  pub record HasSeats (queue : JobQueue W R) (seat : JobSeat J A W R T S) : Type 0 where
    pub placed : IsPlaced queue seat
    pub idle : IsIdle point queue.point seat.waker

  -- The seat belongs to the queue, and its thread is running. The thread has woken a worker since it
  -- last put a job in, and all workers since it last stored another stop word.
  pub record IsReady (queue : JobQueue W R) (seat : JobSeat J A W R T S) : Type 0 where
    pub seats : HasSeats queue seat
    pub silent : seat.announcing ≡ false
    pub told : told_of seat.told ≡ stored_of seat.stop

  -- the seat of a worker that has entered the wait point, and has neither slept nor left since
  pub record HasEntered (queue : JobQueue W R) (seat : JobSeat J A W R T S) : Type 0 where
    pub placed : IsPlaced queue seat
    pub inside : HasEnteredAt point queue.point seat.waker
    pub silent : seat.announcing ≡ false
    pub told : told_of seat.told ≡ stored_of seat.stop
