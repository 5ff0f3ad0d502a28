-- The laws of a count: what holds in every state that its rule allows. The rule gives a lawful
-- World and its history. What is said about pre-waiters, stack, pushes and counts holds for every
-- World and history that the table shows.
use Rattle.std.specs.Prelude.{◌≡◌, ℕ, ◌+◌, ◌<◌, ◌≤◌, Bool, true, false, List, [], ◌∷◌, ◌++◌, map}
use Rattle.std.specs.Prelude.{filter}
use Rattle.event_word.specs.declared.event.Event.{Event}
use Rattle.event_word.specs.declared.event.Event.TheVariants.{Commit, NotifyAll}
use Rattle.event_word.specs.declared.phase.Phase.{Phase}
use Rattle.event_word.specs.declared.phase.Phase.TheVariants.{Running, Pre, Stacked, Ended}
use Rattle.event_word.specs.Fields.{fields_of}
use Rattle.event_word.specs.Lists.{total, times}
use Rattle.event_word.specs.Lawful.{Lawful, HasSizes}
use Rattle.event_word.specs.Runs.{Runs}
use Rattle.event_word.specs.Balance.{Balance}
use Rattle.event_word.specs.World.{World, phase_of}
use Rattle.event_word.specs.Step.{effect}
use Rattle.event_count.specs.declared.rule.RowSizes.{RowSizes}
use Rattle.event_count.specs.declared.answers.TryCommit.TheVariants as commit
use Rattle.event_count.specs.declared.view.Card.{Card}
use Rattle.event_count.specs.declared.view.View.{View}
use Rattle.event_count.specs.Written.{shown_fields}
use Rattle.event_count.specs.Known.{world_at_first, events_of, Each}
use Rattle.event_count.specs.Shown.{CountState, Shows}
use Rattle.event_count.specs.Tries.{IsTryCommit}
use Rattle.event_count.specs.Kinds.{without_rows}
use Rattle.event_count.specs.Counts.{CardCounts}

-- a rule for counts, by their sizes
abbrev pub Rule : Type 1
Rule = RowSizes → CountState → Type 0

-- the table shows a lawful World, to which one history leads
abbrev pub ShowsLawfulWorld : Rule → Type 0
ShowsLawfulWorld holds =
    (k : RowSizes) (s : CountState) → holds k s
    → (history : List Event) × (w : World)
    × Shows k s history w × Lawful w × HasSizes k.waiters (k.waiters + k.notifiers) k.rows w

-- the state word has no more signals than pre-waiters
abbrev pub SignalsAreAnswered : Rule → Type 0
SignalsAreAnswered holds =
    (k : RowSizes) (s : CountState) → holds k s
    → (shown_fields s.words).signals ≤ (shown_fields s.words).pre

-- the phase is Pre
abbrev pub is_pre : Phase → Bool
is_pre Running = false
is_pre Pre = true
is_pre Stacked = false
is_pre Ended = false

-- the numbers of a view's seats whose phase is Pre
abbrev pub pre_numbers_in : View → List ℕ
pre_numbers_in v = map (λ c. c.number) (filter (λ c. is_pre c.phase) v.cards)

-- the World's pre-waiters are the seats whose phase says so, each once
abbrev pub PreSeatsWait : Type 0
PreSeatsWait =
    (k : RowSizes) (s : CountState) (history : List Event) (w : World) → Shows k s history w
    → (n : ℕ) → (times n w.pre ≤ 1)
    × (times n w.pre ≡ total (λ v. times n (pre_numbers_in v)) s.views)

-- each seat stands on the stack at most once
abbrev pub SeatsStandOnce : Type 0
SeatsStandOnce =
    (k : RowSizes) (s : CountState) (history : List Event) (w : World) → Shows k s history w
    → (seat : ℕ) → times seat w.stack ≤ 1

-- an exchange that pushed its seat found the looked word, and no signal in it
abbrev pub ExchangesFoundNoSignal : Type 0
ExchangesFoundNoSignal = (c d : Card) (word : ℕ) → IsTryCommit without_rows c word commit.Pushed d
    → (d.exchange.found ≡ word) × ((fields_of d.exchange.found).signals ≡ 0)

-- if a commit in the history pushed its seat, there was no signal before it
abbrev pub CommitsFoundNoSignal : Type 0
CommitsFoundNoSignal =
    (k : RowSizes) (s : CountState) (history : List Event) (w : World) → Shows k s history w
    → (before after : List Event) (seat : ℕ) (u : World) → history ≡ before ++ Commit seat ∷ after
    → Runs (world_at_first k) before u → phase_of (effect u (Commit seat)) seat ≡ Stacked
    → u.signals ≡ 0

-- After a notification of all, until its seat's next event, this seat owes the whole stack from
-- before the notification, top first.
abbrev pub TakenStacksAreOwed : Type 0
TakenStacksAreOwed =
    (k : RowSizes) (s : CountState) (history : List Event) (w : World) → Shows k s history w
    → (before after : List Event) (actor : ℕ) (u : World)
    → history ≡ before ++ NotifyAll actor ∷ after → Runs (world_at_first k) before u
    → events_of actor after ≡ [] → Each (λ c. c.number ≡ actor → c.owing ≡ u.stack) s.views

-- Each waiter was taken off the stack as often as it was pushed, except once if it is still on the
-- stack. It was unparked as often as it was taken off, except once if it is owed. It was woken as
-- often as it was unparked, except once if it has a token. Its card shows its pushes and its wakes.
abbrev pub CountsFollow : Type 0
CountsFollow =
    (k : RowSizes) (s : CountState) (history : List Event) (w : World) → Shows k s history w
    → ((seat : ℕ) → seat < k.waiters → Balance (world_at_first k) history w seat)
    × Each (CardCounts k history) s.views
