-- How often a seat was pushed, taken off the stack, unparked and woken.
use Rattle.std.specs.Prelude.{◌≡◌, ℕ, ◌+◌, ◌<◌, List, [], ◌∷◌, All}
use Rattle.event_word.specs.declared.event.Event.{Event}
use Rattle.event_word.specs.declared.event.Event.TheVariants.{Wake}
use Rattle.event_word.specs.World.{World}
use Rattle.event_word.specs.Runs.{Runs}
use Rattle.event_word.specs.Balance.{push_of, taking_of, unpark_of, wake_of, over}
use Rattle.event_count.specs.declared.rule.Sizes.{Sizes}
use Rattle.event_count.specs.declared.rule.RowSizes.{RowSizes}
use Rattle.event_count.specs.declared.view.Card.{Card}
use Rattle.event_count.specs.Cards.{rowless}
use Rattle.event_count.specs.Known.{world_at_first, Agrees}

-- the number of wakes in a list of events
abbrev pub wakes_in : List Event → ℕ
wakes_in [] = 0
wakes_in (Wake seat ∷ events) = 1 + wakes_in events
wakes_in (e ∷ events) = wakes_in events

-- A card shows how often its seat was pushed and woken: by its epoch, and by the wakes among its
-- events.
pub record CardCounts (k : RowSizes) (history : List Event) (c : Card) : Type 0 where
  pub pushes : c.epoch ≡ k.first + over (push_of c.number) (world_at_first k) history
  pub wakes : wakes_in c.events ≡ over (wake_of c.number) (world_at_first k) history

-- the seat was pushed, taken off the stack, unparked and woken equally often
pub record AreEven (k : RowSizes) (history : List Event) (seat : ℕ) : Type 0 where
  pub taken : over (taking_of seat) (world_at_first k) history
      ≡ over (push_of seat) (world_at_first k) history
  pub unparked : over (unpark_of seat) (world_at_first k) history
      ≡ over (taking_of seat) (world_at_first k) history
  pub woken : over (wake_of seat) (world_at_first k) history
      ≡ over (unpark_of seat) (world_at_first k) history

-- the cards of a count that has ended: they have their parts of one history, in which the four
-- counts of each waiter are equal
pub record HasEnded (k : RowSizes) (cards : List Card) (history : List Event) (w : World)
    : Type 0 where
  pub runs : Runs (world_at_first k) history w
  pub known : All (Agrees k history w) cards
  pub even : (seat : ℕ) → seat < k.waiters → AreEven k history seat

-- there are such a history and such a World
abbrev pub HaveEnded : RowSizes → List Card → Type 0
HaveEnded k cards = (history : List Event) × (w : World) × HasEnded k cards history w

-- the cards of a count alone that has ended
abbrev pub Ends : Sizes → List Card → Type 0
Ends k cards = HaveEnded (rowless k) cards
