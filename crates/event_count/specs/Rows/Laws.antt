-- The laws of a count with rows: what holds in every state of its table. No row with jobs is
-- forgotten, and nobody sleeps on after a stop of which all were notified.
use Rattle.std.specs.Prelude.{◌≡◌, ℕ, ◌+◌, ◌<◌, Bool, true, false, List, [], ◌∷◌, ◌++◌, slice_index}
use mathlib.Core.Option.{some}
use lib.ListN.{get_elem?}
use Rattle.event_word.specs.declared.event.Event.{Event}
use Rattle.event_word.specs.declared.event.Event.TheVariants.{NotifyAll, Stop}
use Rattle.event_word.specs.Lists.{times}
use Rattle.event_word.specs.Word.{nobody}
use Rattle.event_word.specs.World.{World}
use Rattle.event_word.specs.Waking.{Support, IsWoken}
use Rattle.event_word.specs.Present.{IsByPresent}
use Rattle.event_count.specs.declared.rule.TheConstants.{STOP}
use Rattle.event_count.specs.declared.rule.RowSizes.{RowSizes}
use Rattle.event_count.specs.declared.view.View.{View}
use Rattle.event_count.specs.Places.{row_place}
use Rattle.event_count.specs.Written.{shown_fields}
use Rattle.event_count.specs.Known.{Each}
use Rattle.event_count.specs.Tickets.{tickets_over}
use Rattle.event_count.specs.Shown.{CountState, Shows}
use Rattle.event_count.specs.Laws.{Rule}

-- the length of a row, by its word
abbrev pub length_in : RowSizes → CountState → ℕ → ℕ
length_in k s row = slice_index s.words (row_place (k.waiters + k.rows) row)

-- While the stop word is 0, each row whose length is above 0 has support by a member of a set. It
-- may be any set that has a waiter, if the seats outside it have done nothing.
abbrev pub RowsStayAwake : Type 0
RowsStayAwake =
    (k : RowSizes) (s : CountState) (history : List Event) (w : World) → Shows k s history w
    → (is_present : ℕ → Bool) (waiter : ℕ) → waiter < k.waiters → is_present waiter ≡ true
    → Each (λ c. is_present c.number ≡ false → c.events ≡ []) s.views
    → slice_index s.words STOP ≡ 0
    → (row : ℕ) → row < k.rows → 0 < length_in k s row
    → (support : Support w row) × IsByPresent is_present support

-- once all were notified of a stop, the stack in the state word is empty, and each sleeper is owed
-- its token or has it
abbrev pub StopWakesAll : Type 0
StopWakesAll =
    (k : RowSizes) (s : CountState) (history : List Event) (w : World) → Shows k s history w
    → w.stop ≡ 2 → ((shown_fields s.words).top ≡ nobody) × IsWoken w

-- if a notification of all comes after a stop in the history, all were notified of the stop
abbrev pub NotifiedStopsShow : Type 0
NotifiedStopsShow =
    (k : RowSizes) (s : CountState) (history : List Event) (w : World) → Shows k s history w
    → (before between after : List Event) (stopper notifier : ℕ)
    → history ≡ before ++ Stop stopper ∷ between ++ NotifyAll notifier ∷ after → w.stop ≡ 2

-- a row's length word is the number of its tickets
abbrev pub LengthsAreTickets : Rule → Type 0
LengthsAreTickets holds = (k : RowSizes) (s : CountState) → holds k s
    → (row : ℕ) → row < k.rows → length_in k s row ≡ tickets_over s.views row

-- the row of a ticket in a view has a length above 0
abbrev pub TicketsShowJobs : Rule → Type 0
TicketsShowJobs holds = (k : RowSizes) (s : CountState) → holds k s
    → (id : ℕ) (v : View) → get_elem? s.views id ≡ some v → (row : ℕ) → 0 < times row v.tickets
    → (row < k.rows) × (0 < length_in k s row)
