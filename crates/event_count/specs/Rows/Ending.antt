-- What is known when a count with rows has ended.
use Rattle.std.specs.Prelude.{ℕ, ◌+◌, ◌≤◌, List}
use Rattle.event_word.specs.declared.event.Event.{Event}
use Rattle.event_word.specs.World.{World, length_of}
use Rattle.event_count.specs.declared.rule.RowSizes.{RowSizes}
use Rattle.event_count.specs.declared.view.Card.{Card}
use Rattle.event_count.specs.Tickets.{credits_for, card_credits}
use Rattle.event_count.specs.Counts.{HasEnded}

-- The cards of a count with rows that has ended: they have their parts of one history, as for a
-- count alone, and each row has at most as many jobs left as credits have not come back.
pub record HasEndedRows (k : RowSizes) (cards : List Card) (history : List Event) (w : World)
    : Type 0 where
  pub ended : HasEnded k cards history w
  pub left : (row : ℕ) → length_of w row + card_credits cards ≤ credits_for k

-- there are such a history and such a World
abbrev pub EndsRows : RowSizes → List Card → Type 0
EndsRows k cards = (history : List Event) × (w : World) × HasEndedRows k cards history w
