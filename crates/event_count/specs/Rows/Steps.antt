-- What each step on a row or on the stop word adds to the history that the table shows. A step on
-- the bank adds nothing.
use Rattle.std.specs.Prelude.{◌≡◌, ℕ, ◌+◌, ◌-◌, ◌<◌, ◌≤◌, ◌%◌, ◌^◌, ◌==◌, false, [], ◌∷◌}
use mathlib.Core.Option.{none}
use prog.Atomic.{either}
use Rattle.atomic_table.specs.Table.{step}
use Rattle.event_word.specs.declared.phase.Phase.TheVariants.{Running, Pre}
use Rattle.event_count.specs.declared.rule.TheConstants.{STOP, BANK}
use Rattle.event_count.specs.declared.rule.RowSizes.{RowSizes}
use Rattle.event_count.specs.declared.view.Card.{Card}
use Rattle.event_count.specs.Places.{row_place}
use Rattle.event_count.specs.Cards.{holding, only, card_in}
use Rattle.event_count.specs.Plays.{Sat}
use Rattle.event_count.specs.Steps.{AddsWith, AddsEvents, Loads}
use Rattle.event_count.specs.Rows.Plays.{publishes, redeems, passes, measures, passes_flag, stops}
use Rattle.event_count.specs.Rows.Plays.{weighs, deposits, withdraws}

-- the steps on a row, the stop word or the bank add their events, by a seat whose card is c and
-- that may take them
pub record RowStepsOf (k : RowSizes) (slots : ℕ) (me : Sat) (c : Card) : Type 0 where
  pub publish : (row : ℕ) → row < k.rows → c.phase ≡ Running → c.owing ≡ []
      → c.announcing ≡ false → 0 < c.credits
      → AddsWith k slots me (row ∷ []) (step slots (row_place (k.waiters + k.rows) row) 1 0 none)
      (λ n. (n + 1) % 2 ^ 64) publishes
  pub pass : (row : ℕ) → row < k.rows → c.phase ≡ Pre
      → Loads k slots me (row_place (k.waiters + k.rows) row) passes
  pub measure : (row : ℕ) → row < k.rows
      → Loads k slots me (row_place (k.waiters + k.rows) row) measures
  pub pass_flag : c.phase ≡ Pre → Loads k slots me STOP passes_flag
  pub weigh : Loads k slots me STOP weighs
  pub stop : 0 < k.rows → c.phase ≡ Running → c.owing ≡ [] → c.announcing ≡ false
      → AddsEvents k slots me (step slots STOP 0 1 none) (λ n. either (n == 0) 1 n) stops
  pub deposit : (credits : ℕ) → credits ≤ c.credits
      → AddsEvents k slots me (step slots BANK credits 0 none) (λ n. (n + credits) % 2 ^ 64)
      deposits
  pub withdraw : AddsEvents k slots me (step slots BANK 0 0 none) (λ _. 0) withdraws

-- a take adds its event, by a seat that has taken in a ticket of the row
pub record TicketStepsOf (k : RowSizes) (slots : ℕ) (me : Sat) (c : Card) (row : ℕ) : Type 0 where
  pub take : c.phase ≡ Running → c.owing ≡ []
      → AddsEvents k slots me (step slots (row_place (k.waiters + k.rows) row) 1 0 none)
      (λ n. (n + (2 ^ 64 - 1)) % 2 ^ 64) redeems

-- each step on a row, the stop word or the bank adds its events, by every seat in use
pub record RowStepsAddTheirEvents : Type 0 where
  pub seats : (k : RowSizes) (slots : ℕ) (me : Sat) → me.0 ≡ only (card_in me.0)
      → RowStepsOf k slots me (card_in me.0)
  pub with_ticket : (k : RowSizes) (slots : ℕ) (me : Sat) (row : ℕ)
      → me.0 ≡ holding (row ∷ []) (card_in me.0) → TicketStepsOf k slots me (card_in me.0) row
