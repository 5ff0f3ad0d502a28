-- The laws that join the table of the rows and the table of the count.
use Rattle.std.specs.Prelude.{◌≡◌, ℕ, ◌<◌, Bool, true, false, List, [], Option, Some, slice_index}
use mathlib.Core.Option.{some}
use lib.ListN.{get_elem?}
use Rattle.event_count.specs.Table.{State}
use Rattle.event_count.specs.Seated.{TableId}
use Rattle.event_word.specs.declared.event.Event.{Event}
use Rattle.event_count.specs.World.{World}
use Rattle.event_count.specs.Waking.{Support}
use Rattle.event_count.specs.Present.{IsByPresent}
use Rattle.event_count.specs.declared.rule.RowSizes.{RowSizes}
use Rattle.event_count.specs.declared.rule.TheConstants.{STOP}
use Rattle.event_count.specs.Known.{Each}
use Rattle.event_count.specs.Rows.Seats.{row_of, ticket_id}
use Rattle.event_count.specs.Shown.{CountState, Shows}
use Rattle.event_count.specs.Tickets.{ticket}
use Rattle.run_queue.specs.declared.slot_rows.rule.RowsKey.{RowsKey}
use Rattle.run_queue.specs.declared.slot_rows.view.View.{View}
use Rattle.run_queue.specs.Laws.{Rule}
use Rattle.run_queue.specs.Positions.{row_with}
use Rattle.waking_rows.specs.declared.ticketed.Ticketed.{Ticketed}
use Rattle.waking_rows.specs.Tickets.{IsCounted}

-- a state of a table of rows
abbrev pub SlotState : Type 0 → Type 0
SlotState J = State (Option (Ticketed J)) (View (Ticketed J))

module _ {J : Type 0} where
  -- this job lies in this element, beside its ticket
  abbrev pub LiesAt : SlotState J → ℕ → Ticketed J → Type 0
  LiesAt slots element it = get_elem? slots.homes element ≡ some (some (Some it))

  -- the two states are of one moment: each ticket of the count that lies in a slot is one of the
  -- views of the count's table
  abbrev pub AreAtOnce : TableId → SlotState J → CountState → Type 0
  AreAtOnce count slots s =
      (element : ℕ) (it : Ticketed J) → LiesAt slots element it → ticket_id it.ticket ≡ count
      → (id : ℕ) × (get_elem? s.views id ≡ some (ticket (row_of it.ticket)))

module _ {J K : Type 0} where
  -- each job in a row has a ticket of the count and of that row beside it
  abbrev pub JobsAreCounted : (RowsKey K → TableId) → Rule (Ticketed J) K → Type 0
  JobsAreCounted count_of holds =
      (key : RowsKey K) (slots : SlotState J) → holds key slots
      → (element : ℕ) (it : Ticketed J) → LiesAt slots element it
      → IsCounted (count_of key) (row_with element) it

  -- While the stop word is 0, each job in a row has support by a member of a set. It may be any set
  -- that has a waiter, if the seats outside it have done nothing.
  abbrev pub JobsAreNotSleptOn : (RowsKey K → TableId) → Rule (Ticketed J) K → Type 0
  JobsAreNotSleptOn count_of holds =
      (key : RowsKey K) (slots : SlotState J) → holds key slots
      → (k : RowSizes) (s : CountState) (history : List Event) (w : World) → Shows k s history w
      → AreAtOnce (count_of key) slots s
      → (is_present : ℕ → Bool) (waiter : ℕ) → waiter < k.waiters → is_present waiter ≡ true
      → Each (λ c. is_present c.number ≡ false → c.events ≡ []) s.views
      → slice_index s.words STOP ≡ 0
      → (element : ℕ) (it : Ticketed J) → LiesAt slots element it
      → (support : Support w (row_with element)) × IsByPresent is_present support
