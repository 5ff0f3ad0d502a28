-- What the cards say about the World and its history.
use Rattle.std.specs.Prelude.{◌≡◌, ℕ, ◌+◌, ◌<◌, ◌≤◌, ◌==◌, nat_lt, List, length, map, filter, All}
use mathlib.Core.Option.{some}
use lib.ListN.{get_elem?}
use Rattle.event_word.specs.declared.phase.Phase.TheVariants.{Running}
use Rattle.event_word.specs.declared.event.Event.{Event}
use Rattle.event_word.specs.Lists.{one_if, total, times}
use Rattle.event_word.specs.World.{World, phase_of, owed_by, has_passed_flag, rows_passed_by}
use Rattle.event_word.specs.World.{is_announcing, opening_world}
use Rattle.event_word.specs.Step.{actor_of}
use Rattle.event_word.specs.Balance.{push_of, over}
use Rattle.event_count.specs.declared.rule.Sizes.{Sizes}
use Rattle.event_count.specs.declared.rule.RowSizes.{RowSizes}
use Rattle.event_count.specs.declared.view.Card.{Card}
use Rattle.event_count.specs.declared.view.View.{View}
use Rattle.event_count.specs.Cards.{rowless}

-- the World of a count that was just made
abbrev pub world_at_first : RowSizes → World
world_at_first k = opening_world k.waiters k.notifiers k.rows

-- the World of a count alone that was just made
abbrev pub first_world : Sizes → World
first_world k = world_at_first (rowless k)

-- the events of an actor, in order
abbrev pub events_of : ℕ → List Event → List Event
events_of actor history = filter (λ e. actor_of e == actor) history

-- the epoch of a seat's next push: its first epoch plus the number of its pushes
abbrev pub next_epoch : RowSizes → List Event → ℕ → ℕ
next_epoch k history seat = k.first + over (push_of seat) (world_at_first k) history

-- what a card says agrees with the World and its history
pub record Agrees (k : RowSizes) (history : List Event) (w : World) (c : Card) : Type 0 where
  pub waiters : c.waiters ≡ k.waiters
  pub rows : c.rows ≡ k.rows
  pub waits : c.number < k.waiters → c.phase ≡ phase_of w c.number
  pub notifies : k.waiters ≤ c.number → c.phase ≡ Running
  pub owing : c.owing ≡ owed_by w c.number
  pub events : c.events ≡ events_of c.number history
  pub epoch : c.epoch ≡ next_epoch k history c.number
  pub flag : c.passed_flag ≡ has_passed_flag w c.number
  pub passed : c.passed ≡ rows_passed_by w c.number
  pub announcing : c.announcing ≡ is_announcing w c.number

-- the numbers of a view's seats
abbrev pub numbers_in : View → List ℕ
numbers_in v = map (λ c. c.number) v.cards

-- each seat has one card, which is in one view; so a seat that has all cards knows the whole
-- history
pub record AreDealt (k : RowSizes) (views : List View) : Type 0 where
  pub once : (n : ℕ)
      → total (λ v. times n (numbers_in v)) views ≡ one_if (nat_lt n (k.waiters + k.notifiers))
  pub all : total (λ v. length v.cards) views ≡ k.waiters + k.notifiers

-- P holds of each card
abbrev pub Each : (Card → Type 0) → List View → Type 0
Each P views = (id : ℕ) (v : View) → get_elem? views id ≡ some v → All P v.cards
