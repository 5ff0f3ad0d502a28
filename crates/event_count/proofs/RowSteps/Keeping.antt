-- Each step on a row or on the stop word adds its events to the history that the table shows.
use Rattle.std.proofs.Common.{◌≡◌, ℕ, ◌+◌, ◌-◌, ◌%◌, ◌^◌, ◌==◌, List, [], ◌∷◌}
use mathlib.Core.Option.{none}
use prog.Atomic.{either}
use Rattle.atomic_table.specs.Table.{step}
use Rattle.event_count.specs.declared.rule.TheConstants.{STOP, BANK}
use Rattle.event_count.specs.declared.rule.RowSizes.{RowSizes}
use Rattle.event_count.specs.Places.{row_place}
use Rattle.event_count.specs.Cards.{holding, only, card_in}
use Rattle.event_count.specs.Plays.{Sat, Told}
use Rattle.event_count.specs.Steps.{AddsWith}
use Rattle.event_count.specs.Rows.Plays.{publishes, redeems, passes, measures, passes_flag, stops}
use Rattle.event_count.specs.Rows.Plays.{weighs, deposits, withdraws}
use Rattle.event_count.specs.Rows.Steps.{RowStepsOf, TicketStepsOf, RowStepsAddTheirEvents}
use Rattle.event_count.proofs.Adding.{adds}
use Rattle.event_count.proofs.RowSteps.Publishing.{AdvancesWith, publish_adds, take_adds}
use Rattle.event_count.proofs.RowSteps.Passing.{pass_adds, measure_adds, pass_flag_adds, weigh_adds}
use Rattle.event_count.proofs.RowSteps.Passing.{stop_adds}
use Rattle.event_count.proofs.RowSteps.Banking.{deposit_adds, withdraw_adds}

module _ (k : RowSizes) (slots : ℕ) (me : Sat) where
  -- a step of the seat, whichever number its view has
  adds_with : (tickets : List ℕ) (place a b : ℕ) (f : ℕ → ℕ) (told : Told)
      → ((id : ℕ) → AdvancesWith k slots id me tickets place a b f told)
      → AddsWith k slots me tickets (step slots place a b none) f told
  adds_with tickets place a b f told advances s history w r id at small =
      let done = advances id s (history, w, r) at small in
      let after = done.1 in (done.0, after.0, after.1, after.2, done.2)

  steps_on_rows : me.0 ≡ only (card_in me.0) → RowStepsOf k slots me (card_in me.0)
  steps_on_rows is = record {
    publish = λ row less running owes_none silent credit.
        adds_with (row ∷ []) (row_place (k.waiters + k.rows) row) 1 0 (λ n. (n + 1) % 2 ^ 64)
        publishes
        (λ id. publish_adds k slots id me is row less running owes_none silent credit);
    pass = λ row less pre. adds k slots me is (row_place (k.waiters + k.rows) row) 0 0 (λ n. n)
        passes (λ id. pass_adds k slots id me is row less pre);
    measure = λ row less. adds k slots me is (row_place (k.waiters + k.rows) row) 0 0 (λ n. n)
        measures (λ id. measure_adds k slots id me is row less);
    pass_flag = λ pre. adds k slots me is STOP 0 0 (λ n. n) passes_flag
        (λ id. pass_flag_adds k slots id me is pre);
    weigh = adds k slots me is STOP 0 0 (λ n. n) weighs (λ id. weigh_adds k slots id me is);
    stop = λ some_rows running owes_none silent.
        adds k slots me is STOP 0 1 (λ n. either (n == 0) 1 n) stops
        (λ id. stop_adds k slots id me is some_rows running owes_none silent);
    deposit = λ credits enough. adds k slots me is BANK credits 0
        (λ n. (n + credits) % 2 ^ 64) deposits (λ id. deposit_adds k slots id me is credits enough);
    withdraw = adds k slots me is BANK 0 0 (λ _. 0) withdraws (λ id. withdraw_adds k slots id me is);
  }

  steps_with_ticket : (row : ℕ) → me.0 ≡ holding (row ∷ []) (card_in me.0)
      → TicketStepsOf k slots me (card_in me.0) row
  steps_with_ticket row is = record {
    take = λ running owes_none.
        adds_with [] (row_place (k.waiters + k.rows) row) 1 0
        (λ n. (n + (2 ^ 64 - 1)) % 2 ^ 64) redeems
        (λ id. take_adds k slots id me row is running owes_none);
  }

pub row_steps_add : RowStepsAddTheirEvents
row_steps_add = record { seats = steps_on_rows; with_ticket = steps_with_ticket }
