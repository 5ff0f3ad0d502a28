-- What the seats at rows and a point over one count are while the threads of a pool work.
use Rattle.std.specs.Prelude.{◌≡◌, ◌≢◌, ℕ, [], Result, Option, IsErr, IsNone}
use Rattle.event_word.specs.declared.phase.Phase.TheVariants.{Running}
use Rattle.event_count.specs.declared.view.Card.{Card}
use Rattle.event_count.specs.Seats.{card_of, seat_id}
use Rattle.run_queue.specs.Elements.{ready_word}
use Rattle.waking_rows.specs.declared.row_point.Rested.{Rested}
use Rattle.waking_rows.specs.declared.row_point.Rested.TheVariants.{Ended}
use Rattle.waking_rows.specs.declared.row_point.RowWaiter.{RowWaiter}
use Rattle.waking_rows.specs.declared.waking_rows.WakingSeat.{WakingSeat}
use Rattle.waking_rows.specs.Points.{count_at, rows_at, RestsByRows, StopsAndWakes}
use Rattle.waking_rows.specs.Seats.{home_of, place_of, number_by, Claims, IsPut}
use Rattle.worker_pool.specs.declared.queues.counted_queue.CountedQueue.{CountedQueue}
use Rattle.worker_pool.specs.declared.queues.counted_queue.CountedSeat.{CountedSeat}
use Rattle.worker_pool.specs.Stops.{open_word}

-- the number of a seat at the point
abbrev pub number_at : RowWaiter → ℕ
number_at waker = (card_of waker.seat).number

module _ {J : Type 0} where
  -- a put, of which the seat at the point knows nothing
  pub record HasPut (answer : Result (Unit {0}) J) (before after : CountedSeat J) : Type 0 where
    pub put : IsPut (IsErr answer) before.row after.row
    pub waker : after.waker ≡ before.waker

  -- a take, of which the seat at the point knows nothing
  pub record HasTaken (answer : Option J) (before after : CountedSeat J) : Type 0 where
    pub claim : Claims ready_word (IsNone answer) before.row after.row
    pub waker : after.waker ≡ before.waker

  -- a stop of the count, and then a wake of all waiters
  abbrev pub HasStopped : (before after : CountedSeat J) → Type 0
  HasStopped before after =
      StopsAndWakes (card_of before.waker.seat) (card_of after.waker.seat)

module _ {J A : Type 0} (queue : CountedQueue J A) where
  -- a seat of these rows
  abbrev pub IsRowOf : WakingSeat J → Type 0
  IsRowOf row = home_of row ≡ place_of queue.rows

  -- a seat of this point whose thread is running and owes no waiter a wake
  pub record IsWakerOf (waker : RowWaiter) : Type 0 where
    pub ours : seat_id waker.seat ≡ count_at queue.point
    pub running : (card_of waker.seat).phase ≡ Running
    pub owes_none : (card_of waker.seat).owing ≡ []

  -- The parts of the seat belong to the queue, and have one number. If the thread stored a stop
  -- word, it stopped the count and then woke all waiters.
  pub record IsReady (seat : CountedSeat J) : Type 0 where
    pub row : IsRowOf seat.row
    pub waker : IsWakerOf seat.waker
    pub one_number : number_at seat.waker ≡ number_by seat.row
    pub told : seat.stored ≢ open_word
        → (before : Card) × StopsAndWakes before (card_of seat.waker.seat)

  -- the thread has rested at this point, as it says
  abbrev pub HasRested : Rested → (before after : CountedSeat J) → Type 0
  HasRested answer before after = RestsByRows (rows_at queue.point)
      (card_of before.waker.seat) answer (card_of after.waker.seat)

  -- the thread has rested, and has found the count stopped and since then each row empty
  abbrev pub HasEnded : CountedSeat J → Type 0
  HasEnded seat = (before : Card)
      × RestsByRows (rows_at queue.point) before Ended (card_of seat.waker.seat)
