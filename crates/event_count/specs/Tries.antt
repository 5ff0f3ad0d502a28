-- What the tries return, and how they change the seat's card.
use Rattle.std.specs.Prelude.{◌≡◌, ◌≢◌, ℕ, ◌<◌, ◌⊎◌, Bool, true, false, Some, List}
use Rattle.event_word.specs.declared.after.AfterCommit.TheVariants as after_commit
use Rattle.event_word.specs.declared.after.AfterNotify.TheVariants as after_notify
use Rattle.event_word.specs.declared.after.AfterNotifyAll.TheVariants as after_all
use Rattle.event_word.specs.Fields.{fields_of}
use Rattle.event_word.specs.Word.{cancelled, popped, IsSettled, IsCommit, IsNotify, IsNotifyAll}
use Rattle.event_count.specs.declared.answers.TryCommit.{TryCommit}
use Rattle.event_count.specs.declared.answers.TryCommit.TheVariants as commit
use Rattle.event_count.specs.declared.answers.TryCancel.{TryCancel}
use Rattle.event_count.specs.declared.answers.TryCancel.TheVariants as cancel
use Rattle.event_count.specs.declared.answers.TryNotify.{TryNotify}
use Rattle.event_count.specs.declared.answers.TryNotify.TheVariants as notify
use Rattle.event_count.specs.declared.answers.TryNotifyAll.{TryNotifyAll}
use Rattle.event_count.specs.declared.answers.TryNotifyAll.TheVariants as notify_all
use Rattle.event_count.specs.declared.view.Exchange.{Exchange}
use Rattle.event_count.specs.declared.view.Card.{Card}
use Rattle.event_count.specs.Limits.{epoch_limit}
use Rattle.event_count.specs.Cards.{exchange_of}
use Rattle.event_count.specs.Gains.{exchanging, storing, consuming, pushing, cancelling}
use Rattle.event_count.specs.Gains.{signalling, popping, taking, NamesFirst}

-- an exchange of the looked word for the offered one that found another word: nothing else has
-- changed
abbrev pub Misses : Card → ℕ → ℕ → Card → Type 0
Misses c word offered d =
    (found : ℕ) × (found ≢ word) × (d ≡ exchanging c (exchange_of word offered found))

-- an exchange of the looked word for the offered one that found the looked word: the seat gains by
-- it
abbrev pub Hits : (Card → Exchange → Card) → Card → ℕ → ℕ → Card → Type 0
Hits gains c word offered d = d ≡ gains c (exchange_of word offered word)

-- an exchange of the looked word for the offered one; true if it found the looked word
abbrev pub Meets : (Card → Exchange → Card) → Card → ℕ → ℕ → Bool → Card → Type 0
Meets gains c word offered true d = Hits gains c word offered d
Meets gains c word offered false d = Misses c word offered d

-- an epoch is left, and the offered word takes a signal that the looked word has
abbrev pub OffersConsume : Card → ℕ → ℕ → Type 0
OffersConsume c word offered = (c.epoch < epoch_limit)
    × IsCommit (fields_of word) c.number c.epoch (after_commit.Consumed offered)

-- an epoch is left, and the offered word has the seat on top, over the stack that its next word
-- names
abbrev pub OffersPush : Card → ℕ → ℕ → ℕ → Type 0
OffersPush c word offered next = (c.epoch < epoch_limit)
    × IsCommit (fields_of word) c.number c.epoch (after_commit.Pushed offered next)

-- the offered word is the word after a cancel
abbrev pub OffersCancel : ℕ → ℕ → Type 0
OffersCancel word offered = fields_of offered ≡ cancelled (fields_of word)

-- all epochs are used, and the offered word is the word after a cancel
abbrev pub OffersSpent : Card → ℕ → ℕ → Type 0
OffersSpent c word offered = (c.epoch ≡ epoch_limit) × OffersCancel word offered

-- a try to commit: it takes a signal that the looked word has. If it has none, it pushes the seat
-- over the stack and epoch that it stored before. If no epoch is left, it cancels.
abbrev pub IsTryCommit : Bool → Card → ℕ → TryCommit → Card → Type 0
IsTryCommit rowed c word commit.Consumed d =
    (offered : ℕ) × OffersConsume c word offered × Hits (consuming rowed) c word offered d
IsTryCommit rowed c word commit.Pushed d = (offered next : ℕ)
    × OffersPush c word offered next × Hits (pushing rowed) (storing c next) word offered d
IsTryCommit rowed c word commit.Spent d =
    (offered : ℕ) × OffersSpent c word offered × Hits cancelling c word offered d
IsTryCommit rowed c word commit.Contended d = (offered next : ℕ)
    × ((OffersConsume c word offered × Misses c word offered d)
    ⊎ ((OffersPush c word offered next × Misses (storing c next) word offered d)
    ⊎ (OffersSpent c word offered × Misses c word offered d)))

-- a try to cancel: it takes the seat out of the pre-waiters
abbrev pub IsTryCancel : Card → ℕ → TryCancel → Card → Type 0
IsTryCancel c word cancel.Done d =
    (offered : ℕ) × OffersCancel word offered × Hits cancelling c word offered d
IsTryCancel c word cancel.Contended d =
    (offered : ℕ) × OffersCancel word offered × Misses c word offered d

-- the looked word has a pre-waiter without a signal, and the offered word has one signal more
abbrev pub OffersSignal : ℕ → ℕ → Type 0
OffersSignal word offered = IsNotify (fields_of word) (after_notify.Signalled offered)

-- the offered word has the looked word's top popped, by the next word that was read with it
abbrev pub OffersPop : Card → ℕ → ℕ → ℕ → Type 0
OffersPop c word seat offered = IsNotify (fields_of word) (after_notify.Pop seat)
    × ((next : ℕ) × (c.next ≡ Some next)
    × (fields_of offered ≡ popped (fields_of word) (fields_of next)))

-- a try to notify: it gives a signal if the looked word has a pre-waiter without one, and otherwise
-- pops the top; it returns Nothing exactly if the looked word has nobody to notify
abbrev pub IsTryNotify : Card → ℕ → TryNotify → Card → Type 0
IsTryNotify c word notify.Nothing d = IsSettled (fields_of word) × (d ≡ c)
IsTryNotify c word notify.Signalled d =
    (offered : ℕ) × OffersSignal word offered × Hits signalling c word offered d
IsTryNotify c word (notify.Popped seat) d =
    (offered : ℕ) × OffersPop c word seat offered × Hits popping c word offered d
IsTryNotify c word notify.Contended d = (offered seat : ℕ)
    × (OffersSignal word offered ⊎ OffersPop c word seat offered) × Misses c word offered d

-- a notification that was not contended ends the seat's announcement
abbrev pub EndsAnnouncement : TryNotify → Card → Type 0
EndsAnnouncement notify.Nothing d = d.announcing ≡ false
EndsAnnouncement notify.Signalled d = d.announcing ≡ false
EndsAnnouncement (notify.Popped seat) d = d.announcing ≡ false
EndsAnnouncement notify.Contended d = Unit {0}

-- a notification of all that was not contended ends the seat's announcement
abbrev pub EndsAnnouncementAll : TryNotifyAll → Card → Type 0
EndsAnnouncementAll notify_all.Nothing d = d.announcing ≡ false
EndsAnnouncementAll notify_all.Taken d = d.announcing ≡ false
EndsAnnouncementAll notify_all.Contended d = Unit {0}

-- the exchange of a notification of all: if it found the looked word, the seat owes the seats of
-- that word's stack, the top first
abbrev pub MeetsAll : Card → ℕ → ℕ → Bool → Card → Type 0
MeetsAll c word offered true d = (taken : List ℕ) × NamesFirst c.waiters word taken
    × Hits (taking taken) c word offered d
MeetsAll c word offered false d = Misses c word offered d

-- the offered word has a signal for each pre-waiter, and an empty stack
abbrev pub OffersAll : ℕ → ℕ → Type 0
OffersAll word offered =
    IsNotifyAll (fields_of word) (after_all.Taken offered (fields_of word).top)

-- a try to notify all: it gives each pre-waiter a signal and takes the stack; it returns Nothing
-- exactly if the looked word has nobody to notify
abbrev pub IsTryNotifyAll : Card → ℕ → TryNotifyAll → Card → Type 0
IsTryNotifyAll c word notify_all.Nothing d = IsSettled (fields_of word) × (d ≡ c)
IsTryNotifyAll c word notify_all.Taken d =
    (offered : ℕ) × OffersAll word offered × MeetsAll c word offered true d
IsTryNotifyAll c word notify_all.Contended d =
    (offered : ℕ) × OffersAll word offered × MeetsAll c word offered false d
