-- The parts of rows of slots and of their seats that contracts name.
use Rattle.std.specs.Prelude.{◌≡◌, ℕ, ◌+◌, List}
use Rattle.atomic_table.specs.Seated.{TableId}
use Rattle.run_queue.specs.declared.slot_rows.view.Claim.{Claim}
use Rattle.run_queue.specs.declared.slot_rows.view.Look.{Look}
use Rattle.run_queue.specs.declared.slot_rows.view.Notes.{Notes}
use Rattle.run_queue.specs.declared.slot_rows.seat.Held.{Held}
use Rattle.run_queue.specs.declared.slot_rows.seat.SlotSeat.{SlotSeat}
use Rattle.run_queue.specs.declared.slot_rows.SlotRows.{SlotRows}

module _ {J : Type 0} where
  -- the table of the seat
  abbrev pub held_id : Held J → TableId
  held_id held = held.seat.table_id

  -- the jobs that were put in through the seat
  abbrev pub puts_in : Held J → List J
  puts_in held = held.seat.me.0.puts

  -- the jobs that were taken out through the seat
  abbrev pub takes_in : Held J → List J
  takes_in held = held.seat.me.0.takes

  -- what the seat tried, and where its row's front is
  abbrev pub notes_in : Held J → Notes
  notes_in held = held.seat.me.0.notes

  -- the rows to which the seat belongs
  abbrev pub table_of : SlotSeat J → TableId
  table_of seat = held_id seat.held

  -- the seat's number
  abbrev pub number_in : SlotSeat J → ℕ
  number_in seat = seat.number

  -- the jobs that were put in through the seat
  abbrev pub puts_of : SlotSeat J → List J
  puts_of seat = puts_in seat.held

  -- the jobs that were taken out through the seat
  abbrev pub takes_of : SlotSeat J → List J
  takes_of seat = takes_in seat.held

  -- the position of the seat's next push at the front
  abbrev pub front_of : SlotSeat J → ℕ
  front_of seat = (notes_in seat.held).front

  -- how many claims the seat made
  abbrev pub claims_of : SlotSeat J → ℕ
  claims_of seat = (notes_in seat.held).claims

  -- the seat's last claim
  abbrev pub claim_of : SlotSeat J → Claim
  claim_of seat = (notes_in seat.held).claim

  -- how many lengths the seat looked at
  abbrev pub looks_of : SlotSeat J → ℕ
  looks_of seat = (notes_in seat.held).looks

  -- the seat's last look
  abbrev pub look_of : SlotSeat J → Look
  look_of seat = (notes_in seat.held).look

  -- the seat made one claim, which wanted this word
  abbrev pub ClaimedOnce : SlotSeat J → SlotSeat J → ℕ → Type 0
  ClaimedOnce old new wanted =
      (claims_of new ≡ claims_of old + 1) × ((claim_of new).wanted ≡ wanted)

  -- the seat looked once at the length of this row, and found this length
  abbrev pub LookedOnce : SlotSeat J → SlotSeat J → ℕ → ℕ → Type 0
  LookedOnce old new row found =
      (looks_of new ≡ looks_of old + 1) × ((look_of new).row ≡ row)
      × ((look_of new).found ≡ found)

module _ {J A F K : Type 0} where
  -- what distinguishes these rows from others
  abbrev pub rows_id : SlotRows J A F K → TableId
  rows_id rows = rows.table.shared.table_id

  -- how many elements all rows have together
  abbrev pub elements_of : SlotRows J A F K → ℕ
  elements_of rows = (rows_id rows).slots

  -- how many rows there are
  abbrev pub row_count_of : SlotRows J A F K → ℕ
  row_count_of rows = rows.rows

  -- how many seats were made with the rows
  abbrev pub seat_count_of : SlotRows J A F K → ℕ
  seat_count_of rows = rows.table.shared.key.seats

  -- the key with which the rows were opened; what is known about their jobs may name it
  abbrev pub of_key : SlotRows J A F K → K
  of_key rows = rows.table.shared.key.of
