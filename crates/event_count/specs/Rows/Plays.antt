-- The plays of a count with rows: what each step on a row, on the stop word, or on the bank tells
-- the seat that makes it.
use Rattle.std.specs.Prelude.{◌≡◌, ℕ, ◌+◌, ◌<◌, ◌≤◌, true, [], ◌∷◌}
use Rattle.event_word.specs.Step.{row_limit}
use Rattle.event_count.specs.declared.rule.TheConstants.{STOP, BANK}
use Rattle.event_count.specs.declared.view.Card.{Card}
use Rattle.event_count.specs.declared.view.View.{View}
use Rattle.event_count.specs.Places.{row_place}
use Rattle.event_count.specs.Cards.{holding, only, card_in}
use Rattle.event_count.specs.Kinds.{has_passed_row}
use Rattle.event_count.specs.Gains.{foremost}
use Rattle.event_count.specs.Plays.{Told}
use Rattle.event_count.specs.Rows.Gains.{publishing, redeeming, passing, measuring, passing_flag}
use Rattle.event_count.specs.Rows.Gains.{stopping, lending, accepting, depositing, withdrawing}

-- the place is the length word of this row
abbrev pub IsOnRow : Card → ℕ → ℕ → Type 0
IsOnRow c place row = (row < c.rows) × (place ≡ row_place (c.waiters + c.rows) row)

-- a publish: the row has one job more, and the seat has its ticket
abbrev pub publishes : Told
publishes step before found after = (row : ℕ) × IsOnRow (card_in before.0) step.word row
    × (after ≡ (holding (row ∷ []) (publishing (card_in before.0) row), before.1))

-- a take: the row has one job less, and the seat has no ticket; a seat's credits are at most the
-- most jobs of a row
abbrev pub redeems : Told
redeems step before found after =
    IsOnRow (card_in before.0) step.word (foremost before.0.tickets)
    × (after ≡ (only (redeeming (card_in before.0) (foremost before.0.tickets)), before.1))
    × ((card_in after.0).credits ≤ row_limit)

-- a load of the row's length, which passes the row if it has no jobs
abbrev pub passes : Told
passes step before found after = (row : ℕ) × IsOnRow (card_in before.0) step.word row
    × (after ≡ (only (passing (card_in before.0) row found), before.1))
    × (found ≡ 0 → has_passed_row (passing (card_in before.0) row found) row ≡ true)

-- a load of the row's length that passes nothing
abbrev pub measures : Told
measures step before found after = (row : ℕ) × IsOnRow (card_in before.0) step.word row
    × (after ≡ (only (measuring (card_in before.0) row found), before.1))

-- a load of the stop word, which passes the flag if nobody has stopped the count
abbrev pub passes_flag : Told
passes_flag step before found after = (step.word ≡ STOP)
    × (after ≡ (only (passing_flag (card_in before.0) found), before.1))

-- an exchange of the stop word, by which the seat stops the count if nobody had
abbrev pub stops : Told
stops step before found after = (step.word ≡ STOP)
    × (after ≡ (only (stopping (card_in before.0) found), before.1))

-- a load that changes nothing; a seat's credits are at most the most jobs of a row
abbrev pub weighs : Told
weighs step before found after = (step.word ≡ STOP) × (after ≡ before)
    × ((card_in before.0).credits ≤ row_limit)

-- credits of the seat go into the bank
abbrev pub deposits : Told
deposits step before found after = (step.word ≡ BANK)
    × (after ≡ (only (depositing (card_in before.0) step.first), before.1))

-- all credits that are found in the bank go to the seat; its credits are at most the most jobs of a
-- row
abbrev pub withdraws : Told
withdraws step before found after = (step.word ≡ BANK)
    × (after ≡ (only (withdrawing (card_in before.0) found), before.1))
    × ((card_in after.0).credits ≤ row_limit)

-- the view that is left after a ticket was split off
abbrev pub after_cut : View → View
after_cut v = record v { tickets = [] }

-- the view of the ticket that was split off
abbrev pub cut : View → View
cut v = record { cards = []; tickets = v.tickets; credits = 0 }

-- the view that is left after a credit was split off
abbrev pub after_lend : View → View
after_lend v = only (lending (card_in v))

-- the view of a seat that has taken in a ticket
abbrev pub with_tickets : View → View → View
with_tickets v w = record v { tickets = w.tickets }

-- the view of a seat that has taken in a credit
abbrev pub with_credit : View → View → View
with_credit v w = only (accepting (card_in v))
