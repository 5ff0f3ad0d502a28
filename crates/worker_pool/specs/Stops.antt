-- What contracts say about the stop word and its seats.
use Rattle.std.specs.Prelude.{◌≡◌, ℕ, Bool, true, false}
use Rattle.atomic_table.specs.declared.shared.Shared.{Shared}
use Rattle.atomic_table.specs.declared.shared.Seat.{Seat}
use Rattle.worker_pool.specs.declared.queues.job_queue.stop.TheConstants.{WORDS}
use Rattle.worker_pool.specs.declared.queues.job_queue.stop.StopRule.{StopRule}
use Rattle.worker_pool.specs.declared.queues.job_queue.stop_view.StopView.{StopView}

-- the stop word of a pool that is open
abbrev pub open_word : ℕ
open_word = 0

-- the stop word of a pool that was cancelled
abbrev pub cancelled_word : ℕ
cancelled_word = 2

-- what is stored last in the stop word before a pool closes: 0 if nothing was stored, 2 if the pool
-- was cancelled
abbrev pub last_word : (cancelled : Bool) → ℕ
last_word false = 0
last_word true = 2

-- what closing stores: that the pool is closing, or that it was cancelled
abbrev pub closing_word : (cancelled : Bool) → ℕ
closing_word false = 1
closing_word true = 2

-- what the seat last stored in the stop word, or 0
abbrev pub stored_of : Seat (Unit {0}) StopView → ℕ
stored_of seat = seat.me.0.stored

-- what the seat's last load found in the stop word, or 0
abbrev pub found_of : Seat (Unit {0}) StopView → ℕ
found_of seat = seat.me.0.found

-- the stop word's table has as many words as it is to have
abbrev pub IsStopTable : Shared (Unit {0}) StopView (Unit {0}) StopRule → Type 0
IsStopTable stop = stop.table_id.words ≡ WORDS

-- the seat belongs to the stop word's table
pub record IsStopSeatOf (stop : Shared (Unit {0}) StopView (Unit {0}) StopRule)
    (seat : Seat (Unit {0}) StopView) : Type 0 where
  pub ours : seat.table_id ≡ stop.table_id
  pub words : IsStopTable stop
