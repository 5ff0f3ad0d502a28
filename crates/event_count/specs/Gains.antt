-- How each step changes the card of the seat that takes it. A Bool says whether the count has rows,
-- if the step depends on this.
use Rattle.std.specs.Prelude.{◌≡◌, ◌≢◌, ℕ, ◌+◌, ◌<◌, ◌≤◌, ◌==◌, ◌&&◌, Bool, true, false, List, []}
use Rattle.std.specs.Prelude.{◌∷◌, ◌++◌, length, replicate, Option, Some, None, MatchBool}
use Rattle.event_word.specs.declared.event.Event.{Event}
use Rattle.event_word.specs.declared.event.Event.TheVariants.{Prewait, PassFlag, Cancel, Commit}
use Rattle.event_word.specs.declared.event.Event.TheVariants.{Notify, NotifyAll, Unpark, Wake}
use Rattle.event_word.specs.declared.phase.Phase.{Phase}
use Rattle.event_word.specs.declared.phase.Phase.TheVariants.{Running, Pre, Stacked, Ended}
use Rattle.event_word.specs.declared.word.Fields.{Fields}
use Rattle.event_word.specs.Fields.{fields_of}
use Rattle.event_word.specs.Word.{nobody, IsSettled}
use Rattle.event_count.specs.declared.view.Exchange.{Exchange}
use Rattle.event_count.specs.declared.view.Card.{Card}

-- the card after a load of the state word that found this word
abbrev pub looking : Card → ℕ → Card
looking c word = record c { loads = c.loads + 1; looked = word; next = None }

-- the card after a load of the next word of the looked word's top
abbrev pub reading : Card → ℕ → Card
reading c word = record c { next = Some word }

-- the card after a store in the seat's own next word
abbrev pub storing : Card → ℕ → Card
storing c word = record c { stored = word }

-- the card after a swap of the seat's own parker word
abbrev pub polling : Card → Card
polling c = record c { polls = c.polls + 1 }

-- the card after an exchange, whether or not it succeeded
abbrev pub exchanging : Card → Exchange → Card
exchanging c x = record c { exchanges = c.exchanges + 1; exchange = x }

-- the card after these events, which left the seat in this phase
abbrev pub gaining : Card → Phase → List Event → Card
gaining c phase events = record c { phase = phase; events = c.events ++ events }

-- these fields have nobody to notify
abbrev pub is_settled : Fields → Bool
is_settled f = (f.top == nobody) && (f.signals == f.pre)

abbrev pub is_running : Phase → Bool
is_running Running = true
is_running Pre = false
is_running Stacked = false
is_running Ended = false

abbrev pub is_none : List ℕ → Bool
is_none [] = true
is_none (seat ∷ seats) = false

-- the seat is to notify, and may do so now
abbrev pub may_notify : Card → Bool
may_notify c = c.announcing && (is_running c.phase && is_none c.owing)

-- the card after a load of the state word: true if the load ends the seat's announcement
abbrev pub loading_by : Bool → Card → ℕ → Card
loading_by true c word =
    record (gaining (looking c word) c.phase (NotifyAll c.number ∷ [])) { announcing = false }
loading_by false c word = looking c word

-- The card after a load of the state word at a count with rows: if the seat is to notify and finds
-- nobody to notify, the load counts as a notification of all.
abbrev pub hearing : Card → ℕ → Card
hearing c word = loading_by (may_notify c && is_settled (fields_of word)) c word

-- the card after a load of the state word
abbrev pub loading : Bool → Card → ℕ → Card
loading true c word = hearing c word
loading false c word = looking c word

-- a load of the state word that found this word
abbrev pub IsLoad : Bool → Card → ℕ → Card → Type 0
IsLoad rowed c word d = d ≡ loading rowed c word

-- the top's next word was loaded, if this word has somebody on the stack
abbrev pub IsRead : Card → ℕ → Card → Type 0
IsRead c word d = MatchBool ((fields_of word).top == nobody) (d ≡ c)
    ((next : ℕ) × (d ≡ reading c next))

-- a look that found this word: a load of the state word, and of the top's next word if somebody is
-- on the stack
abbrev pub IsLook : Bool → Card → ℕ → Card → Type 0
IsLook rowed c word d = IsRead (loading rowed c word) word d

-- the card after a prewait: the seat has passed nothing since
abbrev pub prewaiting : Card → Card
prewaiting c = record (gaining c Pre (Prewait c.number ∷ [])) {
  passed_flag = false;
  passed = replicate (length c.passed) false;
}

-- the events of a commit: at a count alone, the seat passes the flag in the same step, since nobody
-- stops the count
abbrev pub commit_events : Bool → ℕ → List Event
commit_events true seat = Commit seat ∷ []
commit_events false seat = PassFlag seat ∷ Commit seat ∷ []

-- the card after a commit that took a signal
abbrev pub consuming : Bool → Card → Exchange → Card
consuming rowed c x = record
    (gaining (exchanging c x) Running (commit_events rowed c.number)) { passed_flag = true }

-- the card after a commit that pushed the seat, and so used its epoch
abbrev pub pushing : Bool → Card → Exchange → Card
pushing rowed c x = record (gaining (exchanging c x) Stacked (commit_events rowed c.number)) {
  passed_flag = true;
  epoch = c.epoch + 1;
}

-- the card after a cancel, or after a commit of a seat that has used all its epochs
abbrev pub cancelling : Card → Exchange → Card
cancelling c x = gaining (exchanging c x) Running (Cancel c.number ∷ [])

-- the card after a notification that gave a signal
abbrev pub signalling : Card → Exchange → Card
signalling c x =
    record (gaining (exchanging c x) c.phase (Notify c.number ∷ [])) { announcing = false }

-- the card after a notification that popped the looked word's top
abbrev pub popping : Card → Exchange → Card
popping c x = record (gaining (exchanging c x) c.phase (Notify c.number ∷ [])) {
  owing = c.owing ++ (fields_of x.expected).top ∷ [];
  linked = false;
  announcing = false;
}

-- the card after a notification of all that took these seats, top first
abbrev pub taking : List ℕ → Card → Exchange → Card
taking taken c x = record (gaining (exchanging c x) c.phase (NotifyAll c.number ∷ [])) {
  owing = c.owing ++ taken;
  linked = true;
  announcing = false;
}

-- the first seat, or nobody if the list is empty
abbrev pub foremost : List ℕ → ℕ
foremost [] = nobody
foremost (seat ∷ seats) = seat

-- the first seat, if there is one
abbrev pub first_of : List ℕ → Option ℕ
first_of [] = None
first_of (seat ∷ seats) = Some seat

-- the seats behind the first
abbrev pub behind : List ℕ → List ℕ
behind [] = []
behind (seat ∷ seats) = seats

-- the card after an unpark of the first owed seat
abbrev pub unparking : Card → Card
unparking c = record (gaining c c.phase (Unpark c.number ∷ [])) { owing = behind c.owing }

-- the card after the unparks of all owed seats
abbrev pub settling : Card → Card
settling c = record
    (gaining c c.phase (replicate (length c.owing) (Unpark c.number))) { owing = [] }

-- the card after the seat took its token
abbrev pub waking : Card → Card
waking c = gaining c Running (Wake c.number ∷ [])

-- what each state word shows that a seat has loaded
pub record FitsWord (phase : Phase) (number waiters word : ℕ) : Type 0 where
  -- there is no signal without a pre-waiter, and a pre-waiter is counted
  pub answered : (fields_of word).signals ≤ (fields_of word).pre
  pub counted : phase ≡ Pre → 0 < (fields_of word).pre
  -- the numbers of a pre-waiter and of the top are waiters' numbers
  pub waits : phase ≡ Pre → number < waiters
  pub stacked : (fields_of word).top ≢ nobody → (fields_of word).top < waiters
  pub few : waiters < nobody

-- what the loaded word shows, for the seat of this card
abbrev pub Fits : Card → ℕ → Type 0
Fits c word = FitsWord c.phase c.number c.waiters word

-- if the loaded word has nobody to notify, a free seat isn't to notify
abbrev pub IsHeard : Card → ℕ → Type 0
IsHeard c word = IsSettled (fields_of word) → c.phase ≡ Running → c.owing ≡ []
    → c.announcing ≡ false

-- the top of the word is the first of these seats, or nobody if there is none
abbrev pub NamesFirst : ℕ → ℕ → List ℕ → Type 0
NamesFirst waiters word [] = (fields_of word).top ≡ nobody
NamesFirst waiters word (seat ∷ rest) =
    ((fields_of word).top ≡ seat) × (seat < waiters) × (waiters < nobody)
