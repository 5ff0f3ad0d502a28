-- What an event leaves unchanged.
use Rattle.std.specs.Prelude.{◌≡◌, ◌≢◌, ℕ, ◌+◌, true}
use Rattle.event_word.specs.declared.event.Event.{Event}
use Rattle.event_word.specs.Lists.{one_if, times}
use Rattle.event_word.specs.World.{World, phase_of, has_passed_flag, rows_passed_by, owed_by}
use Rattle.event_word.specs.World.{is_announcing, has_token}
use Rattle.event_word.specs.Step.{Possible, effect, actor_of}
use Rattle.event_word.specs.Lawful.{Lawful, HasSizes}

-- everything of this worker or notifier stays, but it may be given a token
pub record LeavesAlone (w u : World) (number : ℕ) : Type 0 where
  pub phase : phase_of u number ≡ phase_of w number
  pub flag : has_passed_flag u number ≡ has_passed_flag w number
  pub rows : rows_passed_by u number ≡ rows_passed_by w number
  pub waiting : times number u.pre ≡ times number w.pre
  pub owed : owed_by u number ≡ owed_by w number
  pub announcing : is_announcing u number ≡ is_announcing w number
  pub token : has_token w number ≡ true → has_token u number ≡ true

-- how often the seat stands on the stack, among the seats that the actor owes, and among the tokens
abbrev pub stands_by : World → ℕ → ℕ → ℕ
stands_by w actor seat =
    times seat w.stack + times seat (owed_by w actor) + one_if (has_token w seat)

-- the number of entries stays, and whoever does not act keeps everything of its own
pub record Frames (w : World) (e : Event) : Type 0 where
  pub sizes : (workers actors rows : ℕ) → HasSizes workers actors rows w
      → HasSizes workers actors rows (effect w e)
  pub alone : (number : ℕ) → number ≢ actor_of e → LeavesAlone w (effect w e) number

-- in a lawful World, a seat that does not act moves only from the stack to the seats that the actor
-- owes, and from there to the tokens
abbrev pub KeepsPlaces : Type 0
KeepsPlaces = (workers actors rows : ℕ) (w : World) (e : Event) → HasSizes workers actors rows w
    → Lawful w → Possible w e → (seat : ℕ) → seat ≢ actor_of e
    → stands_by (effect w e) (actor_of e) seat ≡ stands_by w (actor_of e) seat

-- what every event leaves unchanged
pub record EventsLeaveAlone : Type 0 where
  pub frames : (w : World) (e : Event) → Frames w e
  pub places : KeepsPlaces
