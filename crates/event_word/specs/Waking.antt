-- Why no row with jobs is forgotten before a stop, and why nobody stays asleep after one.
use Rattle.std.specs.Prelude.{◌≡◌, ◌≢◌, ℕ, ◌<◌, ◌⊎◌, true, false, List, [], length, Contains}
use Rattle.event_word.specs.declared.phase.Phase.TheVariants.{Running, Pre, Stacked, Ended}
use Rattle.event_word.specs.declared.event.Event.{Event}
use Rattle.event_word.specs.World.{World, phase_of, has_passed, owed_by, is_announcing, has_token}
use Rattle.event_word.specs.World.{length_of, opening_world}
use Rattle.event_word.specs.Runs.{Runs}

-- why somebody will look at the row again: an actor is to notify, runs, is about to look at the
-- row, or is being woken
pub data Support (w : World) (row : ℕ) : Type 0 where
  by_announcement : (actor : ℕ) → is_announcing w actor ≡ true → Support w row
  by_runner : (seat : ℕ) → phase_of w seat ≡ Running → Support w row
  by_looker : (seat : ℕ) → phase_of w seat ≡ Pre → has_passed w seat row ≡ false → Support w row
  by_signal : 0 < w.signals → Support w row
  by_debt : (actor : ℕ) → 0 < length (owed_by w actor) → Support w row
  by_token : (seat : ℕ) → has_token w seat ≡ true → Support w row

-- every worker is on the stack
abbrev pub AllParked : World → Type 0
AllParked w = (seat : ℕ) → seat < length w.phases → Contains w.stack seat

-- no actor is to notify
abbrev pub AllSilent : World → Type 0
AllSilent w = (actor : ℕ) → is_announcing w actor ≡ false

-- no worker has ended, and each row with jobs has support
pub record IsAwake (w : World) : Type 0 where
  pub going : (seat : ℕ) → seat < length w.phases → phase_of w seat ≢ Ended
  pub support : (row : ℕ) → 0 < length_of w row → Support w row

-- before a stop the World is awake; and whenever every worker is parked and no actor is to notify,
-- no row has jobs
pub record StaysAwake (w : World) : Type 0 where
  pub awake : w.stop ≡ 0 → IsAwake w
  pub parked : AllParked w → AllSilent w → (row : ℕ) → length_of w row ≡ 0

-- somebody owes the seat its token
abbrev pub IsOwed : World → ℕ → Type 0
IsOwed w seat = (actor : ℕ) × Contains (owed_by w actor) seat

-- the stack is empty; a sleeper is owed its token or has it, and has it once no actor owes a token
pub record IsWoken (w : World) : Type 0 where
  pub stack : w.stack ≡ []
  pub sleepers : (seat : ℕ) → phase_of w seat ≡ Stacked
      → IsOwed w seat ⊎ (has_token w seat ≡ true)
  pub tokens : ((actor : ℕ) → owed_by w actor ≡ []) → (seat : ℕ) → phase_of w seat ≡ Stacked
      → has_token w seat ≡ true

-- every list of possible events from an opening World with a worker leads to a World that stays
-- awake
abbrev pub RunsStayAwake : Type 0
RunsStayAwake = (workers notifiers rows : ℕ) (history : List Event) (w : World) → 0 < workers
    → Runs (opening_world workers notifiers rows) history w → StaysAwake w

-- every list of possible events after which all were notified of a stop leads to a World in which
-- everybody is woken
abbrev pub RunsWakeAll : Type 0
RunsWakeAll = (workers notifiers rows : ℕ) (history : List Event) (w : World)
    → Runs (opening_world workers notifiers rows) history w → w.stop ≡ 2 → IsWoken w
