-- How often a list of events pushes a seat, takes it off the stack, unparks it and wakes it.
use Rattle.std.specs.Prelude.{◌≡◌, ℕ, ◌+◌, ◌==◌, nat_lt, if◌then◌else◌, List, [], ◌∷◌, length}
use Rattle.event_word.specs.declared.event.Event.{Event}
use Rattle.event_word.specs.declared.event.Event.TheVariants.{Commit, Notify, NotifyAll, Unpark}
use Rattle.event_word.specs.declared.event.Event.TheVariants.{Wake}
use Rattle.event_word.specs.Lists.{one_if, total, times}
use Rattle.event_word.specs.World.{World, owed_by, has_token, opening_world}
use Rattle.event_word.specs.Step.{effect}
use Rattle.event_word.specs.Runs.{Runs}

-- 1 if the list begins with the number, else 0
abbrev pub heads : ℕ → List ℕ → ℕ
heads n [] = 0
heads n (x ∷ xs) = one_if (x == n)

-- 1 if the event pushes the seat, else 0
abbrev pub push_of : ℕ → World → Event → ℕ
push_of n w (Commit seat) = if nat_lt 0 w.signals then 0 else one_if (seat == n)
push_of n w e = 0

-- 1 if the event takes the seat off the stack, else 0
abbrev pub taking_of : ℕ → World → Event → ℕ
taking_of n w (Notify actor) = if nat_lt w.signals (length w.pre) then 0 else heads n w.stack
taking_of n w (NotifyAll actor) = times n w.stack
taking_of n w e = 0

-- 1 if the event unparks the seat, else 0
abbrev pub unpark_of : ℕ → World → Event → ℕ
unpark_of n w (Unpark actor) = heads n (owed_by w actor)
unpark_of n w e = 0

-- 1 if the event is the seat's wake, else 0
abbrev pub wake_of : ℕ → World → Event → ℕ
wake_of n w (Wake seat) = one_if (seat == n)
wake_of n w e = 0

-- the sum of f over the events of a list that begins at this World
abbrev pub over : (World → Event → ℕ) → World → List Event → ℕ
over f w [] = 0
over f w (e ∷ es) = f w e + over f (effect w e) es

-- A seat was taken off the stack each time it was pushed, except once if it is still on the stack.
-- It was unparked each time it was taken off, except once if it is owed. It took its token each
-- time it was unparked, except once if it still has its token.
pub record Balance (first : World) (history : List Event) (w : World) (seat : ℕ) : Type 0 where
  pub pushes : over (push_of seat) first history
      ≡ over (taking_of seat) first history + times seat w.stack
  pub takings : over (taking_of seat) first history
      ≡ over (unpark_of seat) first history + total (times seat) w.owed
  pub unparks : over (unpark_of seat) first history
      ≡ over (wake_of seat) first history + one_if (has_token w seat)

-- every list of possible events from an opening World on keeps each seat's balance
abbrev pub RunsBalance : Type 0
RunsBalance = (workers notifiers rows : ℕ) (history : List Event) (w : World)
    → Runs (opening_world workers notifiers rows) history w → (seat : ℕ)
    → Balance (opening_world workers notifiers rows) history w seat
