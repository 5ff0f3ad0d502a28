-- Which events are possible, and what each does.
use Rattle.std.specs.Prelude.{◌≡◌, ◌≢◌, ℕ, ◌+◌, ◌-◌, ◌<◌, ◌==◌, nat_lt, if◌then◌else◌, true, false}
use Rattle.std.specs.Prelude.{List, [], ◌∷◌, ◌++◌, length, slice_set, replicate}
use Rattle.event_word.specs.declared.phase.Phase.{Phase}
use Rattle.event_word.specs.declared.phase.Phase.TheVariants.{Running, Pre, Stacked, Ended}
use Rattle.event_word.specs.declared.event.Event.{Event}
use Rattle.event_word.specs.declared.event.Event.TheVariants.{Publish, Prewait, Pass, PassFlag}
use Rattle.event_word.specs.declared.event.Event.TheVariants.{Cancel, Commit, Notify}
use Rattle.event_word.specs.declared.event.Event.TheVariants.{NotifyAll, Unpark, Wake, Take, Stop}
use Rattle.event_word.specs.declared.event.Event.TheVariants.{End}
use Rattle.event_word.specs.Lists.{without}
use Rattle.event_word.specs.World.{World, phase_of, has_passed_flag, rows_passed_by, has_passed}
use Rattle.event_word.specs.World.{owed_by, is_announcing, has_token, length_of}

-- the most jobs of a row
abbrev pub row_limit : ℕ
row_limit = 1048576

-- a free actor: it has unparked each seat that it popped, and runs if it is a worker
pub record IsFree (w : World) (actor : ℕ) : Type 0 where
  pub known : actor < length w.owed
  pub owes_none : owed_by w actor ≡ []
  pub runs : actor < length w.phases → phase_of w actor ≡ Running

-- a quiet actor: it is free, and not to notify
abbrev pub IsQuiet : World → ℕ → Type 0
IsQuiet w actor = IsFree w actor × (is_announcing w actor ≡ false)

-- the seat has found each row empty, and no stop, since its prewait
pub record HasPassedAll (w : World) (seat : ℕ) : Type 0 where
  pub flag : has_passed_flag w seat ≡ true
  pub rows : (row : ℕ) → row < length w.lengths → has_passed w seat row ≡ true

-- the event is possible now
abbrev pub Possible : World → Event → Type 0
Possible w (Publish actor row) =
    IsQuiet w actor × (row < length w.lengths) × (length_of w row < row_limit)
Possible w (Prewait seat) = (seat < length w.phases) × IsQuiet w seat
Possible w (Pass seat row) =
    (phase_of w seat ≡ Pre) × (row < length w.lengths) × (length_of w row ≡ 0)
Possible w (PassFlag seat) = (phase_of w seat ≡ Pre) × (w.stop ≡ 0)
Possible w (Cancel seat) = phase_of w seat ≡ Pre
Possible w (Commit seat) = (phase_of w seat ≡ Pre) × HasPassedAll w seat
Possible w (Notify actor) = IsFree w actor
Possible w (NotifyAll actor) = IsFree w actor
Possible w (Unpark actor) = 0 < length (owed_by w actor)
Possible w (Wake seat) = (phase_of w seat ≡ Stacked) × (has_token w seat ≡ true)
Possible w (Take actor row) = IsFree w actor × (0 < length_of w row)
Possible w (Stop actor) = IsQuiet w actor × (w.stop ≡ 0)
Possible w (End seat) = (seat < length w.phases) × IsQuiet w seat × (w.stop ≢ 0)

-- the World in which the seat has left the pre-waiters for this phase, and this many signals are
-- left
abbrev pub leave : World → ℕ → Phase → ℕ → World
leave w seat phase signals = record w {
  phases = slice_set w.phases seat phase;
  pre = without seat w.pre;
  signals = signals;
}

-- the World in which the pre-waiter is the top of the stack
abbrev pub park : World → ℕ → World
park w seat = record (leave w seat Stacked w.signals) { stack = seat ∷ w.stack }

-- the World after a commit: the pre-waiter takes a signal, or parks if there is none
abbrev pub commit : World → ℕ → World
commit w seat =
    if nat_lt 0 w.signals then leave w seat Running (w.signals - 1) else park w seat

-- the World in which the top of the stack, if any, is the last seat that the actor owes
abbrev pub pop : World → ℕ → List ℕ → World
pop w actor [] = w
pop w actor (top ∷ rest) =
    record w { stack = rest; owed = slice_set w.owed actor (owed_by w actor ++ top ∷ []) }

-- the World in which the actor isn't to notify
abbrev pub announced : World → ℕ → World
announced w actor = record w { announcing = slice_set w.announcing actor false }

-- the World with one more signal
abbrev pub signal : World → World
signal w = record w { signals = w.signals + 1 }

-- the World after a notification: a pre-waiter without a signal gets one; if each has one, the
-- stack is popped
abbrev pub notify : World → ℕ → World
notify w actor = if nat_lt w.signals (length w.pre) then signal w else pop w actor w.stack

-- the World in which the first of these seats has its token, and the actor owes the rest
abbrev pub unpark : World → ℕ → List ℕ → World
unpark w actor [] = w
unpark w actor (seat ∷ rest) = record w {
  owed = slice_set w.owed actor rest;
  tokens = slice_set w.tokens seat true;
}

-- the World after the event
abbrev pub effect : World → Event → World
effect w (Publish actor row) = record w {
  announcing = slice_set w.announcing actor true;
  lengths = slice_set w.lengths row (length_of w row + 1);
}
effect w (Prewait seat) = record w {
  phases = slice_set w.phases seat Pre;
  flags = slice_set w.flags seat false;
  passed = slice_set w.passed seat (replicate (length w.lengths) false);
  pre = w.pre ++ seat ∷ [];
}
effect w (Pass seat row) = record w {
  passed = slice_set w.passed seat (slice_set (rows_passed_by w seat) row true);
}
effect w (PassFlag seat) = record w { flags = slice_set w.flags seat true }
effect w (Cancel seat) =
    leave w seat Running (if w.signals == length w.pre then w.signals - 1 else w.signals)
effect w (Commit seat) = commit w seat
effect w (Notify actor) = notify (announced w actor) actor
effect w (NotifyAll actor) = record w {
  signals = length w.pre;
  stack = [];
  owed = slice_set w.owed actor (owed_by w actor ++ w.stack);
  announcing = slice_set w.announcing actor false;
  stop = if w.stop == 1 then 2 else w.stop;
}
effect w (Unpark actor) = unpark w actor (owed_by w actor)
effect w (Wake seat) = record w {
  phases = slice_set w.phases seat Running;
  tokens = slice_set w.tokens seat false;
}
effect w (Take actor row) =
    record w { lengths = slice_set w.lengths row (length_of w row - 1) }
effect w (Stop actor) =
    record w { announcing = slice_set w.announcing actor true; stop = 1 }
effect w (End seat) = record w { phases = slice_set w.phases seat Ended }

-- the actor of the event
abbrev pub actor_of : Event → ℕ
actor_of (Publish actor row) = actor
actor_of (Prewait seat) = seat
actor_of (Pass seat row) = seat
actor_of (PassFlag seat) = seat
actor_of (Cancel seat) = seat
actor_of (Commit seat) = seat
actor_of (Notify actor) = actor
actor_of (NotifyAll actor) = actor
actor_of (Unpark actor) = actor
actor_of (Wake seat) = seat
actor_of (Take actor row) = actor
actor_of (Stop actor) = actor
actor_of (End seat) = seat
