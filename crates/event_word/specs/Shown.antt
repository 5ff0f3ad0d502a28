-- The word that an event count shows, and how it follows the event model.
use Rattle.std.specs.Prelude.{◌≡◌, ℕ, ◌<◌, List, [], ◌∷◌, length}
use Rattle.event_word.specs.declared.word.Fields.{Fields}
use Rattle.event_word.specs.declared.event.Event.TheVariants.{Prewait, Cancel, Commit, Notify}
use Rattle.event_word.specs.declared.event.Event.TheVariants.{NotifyAll}
use Rattle.event_word.specs.Fields.{fields}
use Rattle.event_word.specs.Word.{nobody, prewaited, cancelled, consumed, pushed, signalled, popped}
use Rattle.event_word.specs.Word.{all_notified}
use Rattle.event_word.specs.World.{World}
use Rattle.event_word.specs.Step.{Possible, effect}
use Rattle.event_word.specs.Lawful.{Lawful}

-- the seat on top of the stack, or nobody
abbrev pub top_of : List ℕ → ℕ
top_of [] = nobody
top_of (seat ∷ seats) = seat

-- the fields of the word that shows this World, if its top was pushed at this epoch
abbrev pub shown : World → ℕ → Fields
shown w epoch = fields (top_of w.stack) (length w.pre) w.signals epoch

-- each step on the fields is the effect of its event on the World that they show
pub record WordFollows (w : World) (epoch : ℕ) : Type 0 where
  pub prewait : (seat : ℕ) → prewaited (shown w epoch) ≡ shown (effect w (Prewait seat)) epoch
  pub cancel : (seat : ℕ) → Possible w (Cancel seat)
      → cancelled (shown w epoch) ≡ shown (effect w (Cancel seat)) epoch
  pub consume : (seat : ℕ) → Possible w (Commit seat) → 0 < w.signals
      → consumed (shown w epoch) ≡ shown (effect w (Commit seat)) epoch
  pub push : (seat at : ℕ) → Possible w (Commit seat) → w.signals ≡ 0
      → pushed (shown w epoch) seat at ≡ shown (effect w (Commit seat)) at
  pub signal : (actor : ℕ) → w.signals < length w.pre
      → signalled (shown w epoch) ≡ shown (effect w (Notify actor)) epoch
  pub pop : (actor seat : ℕ) (rest : List ℕ) (next : Fields) → w.signals ≡ length w.pre
      → w.stack ≡ seat ∷ rest → next.top ≡ top_of rest
      → popped (shown w epoch) next ≡ shown (effect w (Notify actor)) next.epoch
  pub nothing : (actor : ℕ) → w.signals ≡ length w.pre → w.stack ≡ []
      → shown w epoch ≡ shown (effect w (Notify actor)) epoch
  pub all : (actor : ℕ) → all_notified (shown w epoch) ≡ shown (effect w (NotifyAll actor)) 0

-- the word follows every lawful World
abbrev pub WordFollowsWorld : Type 0
WordFollowsWorld = (w : World) (epoch : ℕ) → Lawful w → WordFollows w epoch
