-- The plays of a count: what each step tells the seat that makes it, and on which word it is.
use Rattle.std.specs.Prelude.{◌≡◌, ◌≢◌, ℕ, ◌==◌, Bool, true, List, [], MatchBool}
use Rattle.atomic_table.specs.Table.{Me, Step}
use Rattle.event_word.specs.Fields.{fields_of}
use Rattle.event_count.specs.declared.rule.TheConstants.{STATE}
use Rattle.event_count.specs.declared.view.Exchange.{Exchange}
use Rattle.event_count.specs.declared.view.Card.{Card}
use Rattle.event_count.specs.declared.view.View.{View}
use Rattle.event_count.specs.Places.{next_place, parker_place}
use Rattle.event_count.specs.Cards.{exchange_of, spent, only, card_in}
use Rattle.event_count.specs.Gains.{loading, reading, storing, polling, exchanging, prewaiting}
use Rattle.event_count.specs.Gains.{consuming, pushing, cancelling, signalling, popping}
use Rattle.event_count.specs.Gains.{taking, foremost, behind, unparking, waking, Fits, IsHeard}
use Rattle.event_count.specs.Gains.{NamesFirst}

-- a seat's view, and the slots that the seat has: none
abbrev pub Sat : Type 0
Sat = Me (Unit {0}) View

-- what a step tells: the step, the seat before it, the word that was found, the seat after it
abbrev pub Told : Type 1
Told = Step (Unit {0}) → Sat → ℕ → Sat → Type 0

-- the new seat has no card
abbrev pub arrives : Told
arrives step before found after = after ≡ (spent, [])

-- a load of the state word: it is counted and kept, and the word shows what every state word shows
abbrev pub looks : Bool → Told
looks rowed step before found after =
    (step.word ≡ STATE) × (after ≡ (only (loading rowed (card_in before.0) found), before.1))
    × Fits (loading rowed (card_in before.0) found) found
    × IsHeard (loading rowed (card_in before.0) found) found

-- a load of the looked top's next word, which is kept
abbrev pub reads : Told
reads step before found after =
    (step.word ≡ next_place (fields_of (card_in before.0).looked).top)
    × (after ≡ (only (reading (card_in before.0) found), before.1))

-- a prewait adds a pre-waiter to the state word
abbrev pub prewaits : Told
prewaits step before found after =
    (step.word ≡ STATE) × (after ≡ (only (prewaiting (card_in before.0)), before.1))

-- how an exchange that succeeds changes a seat's card: the card before, the exchange, the view
-- after
abbrev pub Gain : Type 1
Gain = Card → Exchange → View → Type 0

-- an exchange of the state word: if it finds the expected word, the seat gains what this gain says;
-- otherwise it changes nothing
abbrev pub exchanges : Gain → Told
exchanges gain step before found after =
    (step.word ≡ STATE) × (after.1 ≡ before.1) × MatchBool (found == step.first)
    (gain (card_in before.0) (exchange_of step.first step.second step.first) after.0)
    ((found ≢ step.first)
    × (after.0 ≡ only (exchanging (card_in before.0) (exchange_of step.first step.second found))))

-- the gain by which the card becomes this one
abbrev pub becomes : (Card → Exchange → Card) → Gain
becomes gains c x after = after ≡ only (gains c x)

-- the gain of a commit that takes a signal
abbrev pub consumes : Bool → Gain
consumes rowed = becomes (consuming rowed)

-- the gain of a commit that pushes its seat
abbrev pub pushes : Bool → Gain
pushes rowed = becomes (pushing rowed)

-- the gain of a cancel
abbrev pub cancels : Gain
cancels = becomes cancelling

-- the gain of a notification that gives a signal
abbrev pub signals : Gain
signals = becomes signalling

-- the gain of a notification that pops the top
abbrev pub pops : Gain
pops = becomes popping

-- the gain of a notification of all: the seat owes the seats of the expected word's stack, the top
-- first
abbrev pub takes_all : Gain
takes_all c x after = (taken : List ℕ) × NamesFirst c.waiters x.expected taken
    × (after ≡ only (taking taken c x))

-- a store in the seat's own next word
abbrev pub stores : Told
stores step before found after =
    (step.word ≡ next_place (card_in before.0).number)
    × (after ≡ (only (storing (card_in before.0) step.first), before.1))

-- a load of the first owed seat's next word, which names the seat behind it
abbrev pub follows : Told
follows step before found after =
    (step.word ≡ next_place (foremost (card_in before.0).owing)) × (after ≡ before)
    × ((card_in before.0).linked ≡ true
    → NamesFirst (card_in before.0).waiters found (behind (card_in before.0).owing))

-- a store in the first owed seat's parker word, which gives it its token
abbrev pub unparks : Told
unparks step before found after =
    (step.word ≡ parker_place (foremost (card_in before.0).owing))
    × (after ≡ (only (unparking (card_in before.0)), before.1))

-- a swap of the seat's own parker word, which takes its token if there is one
abbrev pub wakes : Told
wakes step before found after =
    (step.word ≡ parker_place (card_in before.0).number) × (after.1 ≡ before.1)
    × MatchBool (found == 0) (after.0 ≡ only (polling (card_in before.0)))
    (after.0 ≡ only (waking (polling (card_in before.0))))
