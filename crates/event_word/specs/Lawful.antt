-- What holds for every World that events can reach.
use Rattle.std.specs.Prelude.{◌≡◌, ℕ, ◌+◌, ◌<◌, ◌≤◌, true, [], length}
use Rattle.event_word.specs.declared.phase.Phase.{Phase}
use Rattle.event_word.specs.declared.phase.Phase.TheVariants.{Running, Pre, Stacked, Ended}
use Rattle.event_word.specs.Lists.{one_if, total, times}
use Rattle.event_word.specs.World.{World, phase_of, has_passed_flag, rows_passed_by, owed_by}
use Rattle.event_word.specs.World.{is_announcing, has_token}

-- 1 for the phase of a pre-waiter, else 0
abbrev pub waits : Phase → ℕ
waits Running = 0
waits Pre = 1
waits Stacked = 0
waits Ended = 0

-- 1 for the phase of a seat that waits for its token or has not taken it, else 0
abbrev pub sleeps : Phase → ℕ
sleeps Running = 0
sleeps Pre = 0
sleeps Stacked = 1
sleeps Ended = 0

-- how often the seat stands on the stack, in the owed lists and among the tokens
abbrev pub stands : World → ℕ → ℕ
stands w seat = times seat w.stack + total (times seat) w.owed + one_if (has_token w seat)

-- how many pre-waiters have passed the stop flag
abbrev pub unstopped : World → ℕ
unstopped w = total (λ seat. one_if (has_passed_flag w seat)) w.pre

-- nobody stays parked: the stack is empty, and each pre-waiter that could commit finds a signal
pub record IsDrained (w : World) : Type 0 where
  pub stack : w.stack ≡ []
  pub signals : unstopped w ≤ w.signals

-- what holds for every World that events can reach
pub record Lawful (w : World) : Type 0 where
  -- each signal is for a pre-waiter
  pub answered : w.signals ≤ length w.pre
  -- the pre-waiters are the seats whose phase says so, each once
  pub waiting : (seat : ℕ) → times seat w.pre ≡ waits (phase_of w seat)
  -- a stacked seat stands in exactly one of these places, once; no other seat stands in any of them
  pub standing : (seat : ℕ) → stands w seat ≡ sleeps (phase_of w seat)
  -- a worker that owes a token, or is to notify, runs
  pub owing : (worker : ℕ) → worker < length w.phases → 0 < length (owed_by w worker)
      → phase_of w worker ≡ Running
  pub announcing : (worker : ℕ) → worker < length w.phases → is_announcing w worker ≡ true
      → phase_of w worker ≡ Running
  -- once all were notified of a stop, nobody can park
  pub stopped : w.stop ≡ 2 → IsDrained w

-- the lists have one entry for each worker, each actor and each row
pub record HasSizes (workers actors rows : ℕ) (w : World) : Type 0 where
  pub phases : length w.phases ≡ workers
  pub flags : length w.flags ≡ workers
  pub passed : length w.passed ≡ workers
  pub passed_rows : (seat : ℕ) → seat < workers → length (rows_passed_by w seat) ≡ rows
  pub owed : length w.owed ≡ actors
  pub announcing : length w.announcing ≡ actors
  pub tokens : length w.tokens ≡ workers
  pub lengths : length w.lengths ≡ rows
