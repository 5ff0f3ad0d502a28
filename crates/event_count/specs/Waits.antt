-- What the waiting calls return, and how they change the seat's card.
use Rattle.std.specs.Prelude.{◌≡◌, ℕ, ◌<◌, ◌≤◌, Bool, [], ◌∷◌}
use Rattle.event_count.specs.declared.answers.TryCommit.TheVariants as commit
use Rattle.event_count.specs.declared.answers.TryCancel.TheVariants as cancel
use Rattle.event_count.specs.declared.answers.TryNotify.{TryNotify}
use Rattle.event_count.specs.declared.answers.TryNotify.TheVariants as notify
use Rattle.event_count.specs.declared.answers.TryNotifyAll.{TryNotifyAll}
use Rattle.event_count.specs.declared.answers.TryNotifyAll.TheVariants as notify_all
use Rattle.event_count.specs.declared.answers.Committed.{Committed}
use Rattle.event_count.specs.declared.answers.Committed.TheVariants as committed
use Rattle.event_count.specs.declared.view.Card.{Card}
use Rattle.event_count.specs.Gains.{IsLoad, IsLook, unparking, settling, waking}
use Rattle.event_count.specs.Tries.{IsTryCommit, IsTryCancel, IsTryNotify, IsTryNotifyAll}

-- d is the card c after looks, exchanges that found another word, and stores in the seat's own next
-- word
pub record IsLater (c d : Card) : Type 0 where
  pub waiters : d.waiters ≡ c.waiters
  pub rows : d.rows ≡ c.rows
  pub number : d.number ≡ c.number
  pub phase : d.phase ≡ c.phase
  pub owing : d.owing ≡ c.owing
  pub events : d.events ≡ c.events
  pub epoch : d.epoch ≡ c.epoch
  pub polls : d.polls ≡ c.polls
  pub flag : d.passed_flag ≡ c.passed_flag
  pub passed : d.passed ≡ c.passed
  pub announcing : d.announcing ≡ c.announcing
  pub credits : d.credits ≡ c.credits
  pub book : d.book ≡ c.book
  pub found : d.found ≡ c.found
  pub loads : c.loads ≤ d.loads
  pub exchanges : c.exchanges ≤ d.exchanges

-- the call's result is the answer to a word that was seen during the call; before that word there
-- were only looks and exchanges that found another word
abbrev pub Rests
    : (Card → ℕ → Card → Type 0) → (Card → ℕ → Card → Type 0) → Card → Card → Type 0
Rests IsSeen IsAnswer c d = (before after : Card) × IsLater c before
    × ((word : ℕ) × IsSeen before word after × IsAnswer after word d)

-- the card of the seat after it has swapped its parker word this number of times
abbrev pub polled : Card → ℕ → Card
polled c polls = record c { polls = polls }

-- a seat that was pushed has swapped its parker word until it took its token
abbrev pub Sleeps : Card → Card → Type 0
Sleeps c d = (polls : ℕ) × (c.polls < polls) × (d ≡ waking (polled c polls))

-- the result of a commit follows from one try that was not contended; a seat that was pushed has
-- slept since
abbrev pub RestsOnCommit : Bool → Card → Committed → Card → Type 0
RestsOnCommit rowed c committed.Consumed d = Rests (IsLoad rowed)
    (λ before word. IsTryCommit rowed before word commit.Consumed) c d
RestsOnCommit rowed c committed.Unparked d = Rests (IsLoad rowed)
    (λ before word after. (tried : Card) × IsTryCommit rowed before word commit.Pushed tried
    × Sleeps tried after) c d
RestsOnCommit rowed c committed.Spent d =
    Rests (IsLoad rowed) (λ before word. IsTryCommit rowed before word commit.Spent) c d

-- the result of a cancel follows from one try that was not contended
abbrev pub RestsOnCancel : Bool → Card → Card → Type 0
RestsOnCancel rowed c d =
    Rests (IsLoad rowed) (λ before word. IsTryCancel before word cancel.Done) c d

-- a notification that found nothing to do, or gave a signal, is done; a notification that popped a
-- seat has unparked it
abbrev pub EndsNotify : TryNotify → Card → Card → Type 0
EndsNotify notify.Nothing c d = d ≡ c
EndsNotify notify.Signalled c d = d ≡ c
EndsNotify (notify.Popped seat) c d = (c.owing ≡ seat ∷ []) × (d ≡ unparking c)
EndsNotify notify.Contended c d = ⊥

-- the result of a notification follows from one try that was not contended
abbrev pub RestsOnNotify : Bool → Card → Card → Type 0
RestsOnNotify rowed c d = Rests (IsLook rowed)
    (λ before word after. (answer : TryNotify) × (tried : Card)
    × IsTryNotify before word answer tried × EndsNotify answer tried after) c d

-- a notification of all that took the stack has unparked each of its seats
abbrev pub EndsNotifyAll : TryNotifyAll → Card → Card → Type 0
EndsNotifyAll notify_all.Nothing c d = d ≡ c
EndsNotifyAll notify_all.Taken c d = d ≡ settling c
EndsNotifyAll notify_all.Contended c d = ⊥

-- the result of a notification of all follows from one try that was not contended
abbrev pub RestsOnNotifyAll : Bool → Card → Card → Type 0
RestsOnNotifyAll rowed c d = Rests (IsLoad rowed)
    (λ before word after. (answer : TryNotifyAll) × (tried : Card)
    × IsTryNotifyAll before word answer tried × EndsNotifyAll answer tried after) c d
