-- The parts of counts with rows, of tickets and of credits that contracts name.
use Rattle.std.specs.Prelude.{◌≡◌, ℕ, false}
use Rattle.atomic_table.specs.Seated.{TableId}
use Rattle.event_count.specs.declared.seat.Seat.{Seat}
use Rattle.event_count.specs.declared.tokens.Ticket.{Ticket}
use Rattle.event_count.specs.declared.tokens.Credit.{Credit}
use Rattle.event_count.specs.declared.kind.Kind.{Ghosts}
use Rattle.event_count.specs.declared.count.Count.{Count}
use Rattle.event_count.specs.Seats.{card_of, count_id}
pub use Rattle.event_count.specs.Seats.{row_sizes_of, IsSeatOf}

-- the row of a ticket
abbrev pub row_of : Ticket → ℕ
row_of ticket = ticket.row

-- the count to which the ticket belongs
abbrev pub ticket_id : Ticket → TableId
ticket_id ticket = ticket.badge.table_id

-- the count to which the credit belongs
abbrev pub credit_id : Credit → TableId
credit_id credit = credit.badge.table_id

-- a silent seat: it has published nothing, and not stopped the count, since it last notified
abbrev pub IsSilent : Seat → Type 0
IsSilent seat = (card_of seat).announcing ≡ false

module _ {K A : Type 0} {G : Ghosts K} where
  -- what distinguishes this count from others
  abbrev pub row_count_id : Count K A G → TableId
  row_count_id count = count_id count

  -- the ticket is for a job that was published at this count
  abbrev pub IsTicketAt : Count K A G → Ticket → Type 0
  IsTicketAt count ticket = ticket_id ticket ≡ count_id count

  -- the credit was lent by a seat of this count
  abbrev pub IsCreditAt : Count K A G → Credit → Type 0
  IsCreditAt count credit = credit_id credit ≡ count_id count
