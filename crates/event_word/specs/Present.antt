-- The wake law if some actors are absent, for example the workers of a pool whose start was
-- refused.
use Rattle.std.specs.Prelude.{◌≡◌, ◌≢◌, ℕ, ◌<◌, Bool, true, List, length, Contains}
use Rattle.std.specs.List.{AllPass}
use Rattle.event_word.specs.declared.phase.Phase.TheVariants.{Ended}
use Rattle.event_word.specs.declared.event.Event.{Event}
use Rattle.event_word.specs.World.{World, phase_of, length_of, opening_world}
use Rattle.event_word.specs.Step.{actor_of}
use Rattle.event_word.specs.Runs.{Runs}
use Rattle.event_word.specs.Waking.{Support, by_announcement, by_runner, by_looker, by_signal}
use Rattle.event_word.specs.Waking.{by_debt, by_token, AllSilent}

-- the actor or seat that the support names is present
abbrev pub IsByPresent : (ℕ → Bool) → {w : World} → {row : ℕ} → Support w row → Type 0
IsByPresent is_present (by_announcement actor announces) = is_present actor ≡ true
IsByPresent is_present (by_runner seat runs) = is_present seat ≡ true
IsByPresent is_present (by_looker seat looks past) = is_present seat ≡ true
IsByPresent is_present (by_signal some) = Unit {0}
IsByPresent is_present (by_debt actor owes) = is_present actor ≡ true
IsByPresent is_present (by_token seat token) = is_present seat ≡ true

-- every present worker is on the stack
abbrev pub PresentParked : (ℕ → Bool) → World → Type 0
PresentParked is_present w =
    (seat : ℕ) → seat < length w.phases → is_present seat ≡ true → Contains w.stack seat

-- no worker has ended, and each row with jobs has support by a present actor
pub record IsAwakeByPresent (is_present : ℕ → Bool) (w : World) : Type 0 where
  pub going : (seat : ℕ) → seat < length w.phases → phase_of w seat ≢ Ended
  pub support : (row : ℕ) → 0 < length_of w row
      → (support : Support w row) × IsByPresent is_present support

-- before a stop the World is awake; and whenever every present worker is parked and no actor is to
-- notify, no row has jobs
pub record StaysAwakeByPresent (is_present : ℕ → Bool) (w : World) : Type 0 where
  pub awake : w.stop ≡ 0 → IsAwakeByPresent is_present w
  pub parked : PresentParked is_present w → AllSilent w → (row : ℕ) → length_of w row ≡ 0

-- if some worker is present, every list of events by present actors leads from an opening World to
-- such a World
abbrev pub RunsStayAwakeByPresent : Type 0
RunsStayAwakeByPresent = (workers notifiers rows : ℕ) (is_present : ℕ → Bool) (worker : ℕ)
    (history : List Event) (w : World) → worker < workers → is_present worker ≡ true
    → AllPass (λ e. is_present (actor_of e)) history
    → Runs (opening_world workers notifiers rows) history w → StaysAwakeByPresent is_present w
