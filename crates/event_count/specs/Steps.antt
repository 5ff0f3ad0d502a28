-- What each step of a seat adds to the history that the table shows.
use Rattle.std.specs.Prelude.{◌≡◌, ◌≢◌, ℕ, ◌+◌, ◌<◌, ◌%◌, ◌^◌, ◌==◌, Bool, List, [], ◌∷◌, ◌++◌}
use Rattle.std.specs.Prelude.{slice_index, Some}
use mathlib.Core.Option.{some, none}
use lib.ListN.{get_elem?}
use prog.Atomic.{either}
use Rattle.atomic_table.specs.Table.{Step, step, stepped, keeps}
use Rattle.event_word.specs.declared.phase.Phase.TheVariants.{Running, Pre, Stacked}
use Rattle.event_word.specs.declared.event.Event.{Event}
use Rattle.event_word.specs.Fields.{fields_of}
use Rattle.event_word.specs.Word.{nobody, below, consumed, pushed, cancelled, signalled, popped}
use Rattle.event_word.specs.Word.{all_notified}
use Rattle.event_word.specs.World.{World}
use Rattle.event_word.specs.Runs.{Runs}
use Rattle.event_count.specs.declared.rule.TheConstants.{STATE}
use Rattle.event_count.specs.declared.rule.RowSizes.{RowSizes}
use Rattle.event_count.specs.declared.view.Card.{Card}
use Rattle.event_count.specs.Places.{next_place, parker_place}
use Rattle.event_count.specs.Cards.{holding, only, card_in}
use Rattle.event_count.specs.Kinds.{IsKind, MayCommit, MayPrewait}
use Rattle.event_count.specs.Plays.{Sat, Told, Gain, exchanges, looks, reads, follows, stores}
use Rattle.event_count.specs.Plays.{prewaits, consumes, pushes, cancels, signals, pops, takes_all}
use Rattle.event_count.specs.Plays.{unparks, wakes}
use Rattle.event_count.specs.Shown.{CountState, Shows}

-- The seat's card c became d, which has these events behind the events of c. The events lead from
-- the World to the World u. The table then shows u, with these events behind the history.
pub record Adds (k : RowSizes) (history : List Event) (w : World) (c d : Card) (after : CountState)
    (events : List Event) (u : World) : Type 0 where
  pub gains : d.events ≡ c.events ++ events
  pub runs : Runs w events u
  pub shows : Shows k after (history ++ events) u

module _ (k : RowSizes) (slots : ℕ) (me : Sat) where
  -- A step that makes f of its word. Whatever World and history the table shows before the step:
  -- the step tells what its play says, adds its events, and leaves the seat with these tickets.
  abbrev pub AddsWith : List ℕ → Step (Unit {0}) → (ℕ → ℕ) → Told → Type 0
  AddsWith tickets step f told =
      (s : CountState) (history : List Event) (w : World) → Shows k s history w
      → (id : ℕ) → get_elem? s.views id ≡ some me.0 → slice_index s.words step.word < 2 ^ 64
      → (d : Card) × (events : List Event) × (u : World)
      × Adds k history w (card_in me.0) d
      (stepped s step.word (f (slice_index s.words step.word)) id me.1 (holding tickets d) keeps)
      events u
      × told step me (slice_index s.words step.word) (holding tickets d, me.1)

  -- a step that has to do with no ticket, and adds its events
  abbrev pub AddsEvents : Step (Unit {0}) → (ℕ → ℕ) → Told → Type 0
  AddsEvents step f told = AddsWith [] step f told

  -- a load of the word at this place, which adds its events
  abbrev pub Loads : ℕ → Told → Type 0
  Loads place told = AddsEvents (step slots place 0 0 none) (λ n. n) told

  -- a store of this word at this place, which adds its events
  abbrev pub Stores : ℕ → ℕ → Told → Type 0
  Stores place word told = AddsEvents (step slots place word 0 none) (λ _. word) told

  -- an exchange of the state word, which expects one word and offers another, and adds its events
  abbrev pub Exchanges : ℕ → ℕ → Gain → Type 0
  Exchanges old new gain =
      AddsEvents (step slots STATE old new none) (λ n. either (n == old) new n) (exchanges gain)

-- the steps of a seat whose card is c add their events, if the seat may take them
pub record StepsOf (k : RowSizes) (slots : ℕ) (me : Sat) (c : Card) : Type 0 where
  pub look : (rowed : Bool) → IsKind rowed k → Loads k slots me STATE (looks rowed)
  pub read : (fields_of c.looked).top ≢ nobody
      → Loads k slots me (next_place (fields_of c.looked).top) reads
  pub follow : (seat : ℕ) (rest : List ℕ) → c.owing ≡ seat ∷ rest
      → Loads k slots me (next_place seat) follows
  pub store : (word : ℕ) → c.phase ≡ Pre → c.number < k.waiters
      → Stores k slots me (next_place c.number) word stores
  pub prewait : (rowed : Bool) → IsKind rowed k → MayPrewait rowed c
      → c.number < k.waiters → c.phase ≡ Running → c.owing ≡ []
      → AddsEvents k slots me (step slots STATE (2 ^ 14) 0 none) (λ n. (n + 2 ^ 14) % 2 ^ 64)
      prewaits
  pub consume : (rowed : Bool) (old new : ℕ) → IsKind rowed k → MayCommit rowed k c
      → c.phase ≡ Pre → 0 < (fields_of old).signals
      → fields_of new ≡ consumed (fields_of old) → Exchanges k slots me old new (consumes rowed)
  pub push : (rowed : Bool) (old new : ℕ) → IsKind rowed k → MayCommit rowed k c
      → c.phase ≡ Pre → (fields_of old).signals ≡ 0
      → fields_of new ≡ pushed (fields_of old) c.number c.epoch
      → fields_of c.stored ≡ below (fields_of old) → Exchanges k slots me old new (pushes rowed)
  pub cancel : (old new : ℕ) → c.phase ≡ Pre → fields_of new ≡ cancelled (fields_of old)
      → Exchanges k slots me old new cancels
  pub signal : (old new : ℕ) → c.phase ≡ Running → c.owing ≡ []
      → (fields_of old).signals < (fields_of old).pre
      → fields_of new ≡ signalled (fields_of old) → Exchanges k slots me old new signals
  pub pop : (old new next : ℕ) → c.phase ≡ Running → c.owing ≡ [] → c.looked ≡ old
      → c.next ≡ Some next → (fields_of old).top ≢ nobody
      → (fields_of old).signals ≡ (fields_of old).pre
      → fields_of new ≡ popped (fields_of old) (fields_of next)
      → Exchanges k slots me old new pops
  pub take_all : (old new : ℕ) → c.phase ≡ Running → c.owing ≡ []
      → fields_of new ≡ all_notified (fields_of old) → Exchanges k slots me old new takes_all
  pub unpark : (seat : ℕ) (rest : List ℕ) → c.owing ≡ seat ∷ rest
      → Stores k slots me (parker_place seat) 1 unparks
  pub wake : c.phase ≡ Stacked
      → AddsEvents k slots me (step slots (parker_place c.number) 0 0 none) (λ _. 0) wakes

-- each step of every seat in use adds its events
abbrev pub StepsAddTheirEvents : Type 0
StepsAddTheirEvents = (k : RowSizes) (slots : ℕ) (me : Sat) → me.0 ≡ only (card_in me.0)
    → StepsOf k slots me (card_in me.0)
