-- The parts of `WakingRows` and of their seats that contracts name.
use Rattle.std.specs.Prelude.{◌≡◌, ◌≢◌, ℕ, ◌+◌, ◌*◌, ◌/◌, ◌<◌, ◌==◌, ◌↔◌, List, Bool, true, false}
use Rattle.std.specs.Prelude.{Result, MatchResult, MatchBool}
use Rattle.std.specs.Arc.{arc_value}
use Rattle.event_word.specs.Step.{row_limit}
use Rattle.event_count.specs.Seated.{TableId}
use Rattle.event_count.specs.declared.view.BankBook.{BankBook}
use Rattle.event_count.specs.declared.view.Card.{Card}
use Rattle.event_count.specs.Kinds.{with_rows}
use Rattle.event_count.specs.Waits.{RestsOnNotify}
use Rattle.event_count.specs.Rows.Gains.{publishing, redeeming}
use Rattle.event_count.specs.Seats.{card_of, seat_id}
use Rattle.event_count.specs.Rows.Seats.{row_count_id}
use Rattle.run_queue.specs.SlotSeats.{rows_id, row_count_of, seat_count_of, table_of, number_in}
use Rattle.run_queue.specs.SlotSeats.{puts_of, takes_of, front_of, claim_of, claims_of, ClaimedOnce}
use Rattle.run_queue.specs.Elements.{empty_word}
use Rattle.waking_rows.specs.declared.waking_rows.WakingRows.{WakingRows}
use Rattle.waking_rows.specs.declared.waking_rows.WakingSeat.{WakingSeat}
use Rattle.waking_rows.specs.Credits.{GoesToBank, funds_of, IsFunded}
use Rattle.waking_rows.specs.Tickets.{jobs_in}

-- the credits with which each seat begins, if `on_one_count` opens rows for this many workers: an
-- equal share of the most credits of a count. Each worker has two seats of the count, and two seats
-- are left.
abbrev pub first_credits : ℕ → ℕ
first_credits workers = row_limit / (2 * workers + 2)

-- the card after a publish in the row, which the slot accepted (true), or whose ticket was given back
abbrev pub putting : Bool → Card → ℕ → Card
putting true c row = publishing c row
putting false c row = redeeming (publishing c row) row

-- What a put in this row does at the count. Without a credit it does nothing more. Otherwise it
-- publishes the job, gives the ticket of a refused job back, and notifies once.
abbrev pub PutsAt : (row : ℕ) → (accepted : Bool) → Card → Card → Type 0
PutsAt row accepted c d = (funded : Card) × IsFunded c funded
    × MatchBool (funded.credits == 0) (d ≡ funded)
    (RestsOnNotify with_rows (putting accepted funded row) d)

module _ {J : Type 0} where
  -- the rows to which the seat belongs, by their slots and by their count
  abbrev pub home_of : WakingSeat J → TableId × TableId
  home_of seat = (table_of seat.slot, seat_id seat.seat)

  -- the seat's number
  abbrev pub number_by : WakingSeat J → ℕ
  number_by seat = number_in seat.slot

  -- the jobs that were put in through the seat
  abbrev pub puts_by : WakingSeat J → List J
  puts_by seat = jobs_in (puts_of seat.slot)

  -- the jobs that were taken out through the seat
  abbrev pub takes_by : WakingSeat J → List J
  takes_by seat = jobs_in (takes_of seat.slot)

  -- how many more jobs the seat may put in with its own credits, before it takes one out
  abbrev pub credits_by : WakingSeat J → ℕ
  credits_by seat = (card_of seat.seat).credits

  -- the seat's account with the bank of the count
  abbrev pub book_by : WakingSeat J → BankBook
  book_by seat = (card_of seat.seat).book

  -- how many credits a put had: the seat's own, or those it kept from the bank if it had none
  abbrev pub funds : WakingSeat J → WakingSeat J → ℕ
  funds before after = funds_of (credits_by before) (book_by before) (book_by after)

  -- a put goes to the bank exactly if the seat has no credit
  abbrev pub IsPaid : WakingSeat J → WakingSeat J → Type 0
  IsPaid before after = GoesToBank (credits_by before) (book_by before) (book_by after)

  -- the position of the seat's next put at the front
  abbrev pub front_by : WakingSeat J → ℕ
  front_by seat = front_of seat.slot

  -- the element that the seat last claimed
  abbrev pub claimed_by : WakingSeat J → ℕ
  claimed_by seat = (claim_of seat.slot).element

  -- the seat made one claim, and was refused exactly if the claim found another word than it wanted
  pub record Claims (wanted : ℕ) (IsRefused : Type 0) (before after : WakingSeat J) : Type 0 where
    pub once : ClaimedOnce before.slot after.slot wanted
    pub refused : IsRefused ↔ ((claim_of after.slot).found ≢ wanted)

  -- a put: it is refused without a claim if the seat has no credit and found none in the bank;
  -- otherwise it is refused exactly if its claim found its element not empty
  pub record IsPut (IsRefused : Type 0) (before after : WakingSeat J) : Type 0 where
    pub bank : IsPaid before after
    pub unpaid : funds before after ≡ 0 → IsRefused
    pub unclaimed : funds before after ≡ 0 → claims_of after.slot ≡ claims_of before.slot
    pub paid : 0 < funds before after → Claims empty_word IsRefused before after

  -- the seat is of the same rows, and has the same number
  pub record IsSameSeat (before after : WakingSeat J) : Type 0 where
    pub home : home_of after ≡ home_of before
    pub number : number_by after ≡ number_by before

  -- the credits after a put: an accepted job takes a credit, and a refused job takes none
  abbrev pub PaysIfOk : Result (Unit {0}) J → ℕ → ℕ → Type 0
  PaysIfOk result before after =
      MatchResult result (λ _. after + 1 ≡ before) (λ _. after ≡ before)

module _ {J A : Type 0} where
  -- what distinguishes these rows from others, by their slots and by their count
  abbrev pub place_of : WakingRows J A → TableId × TableId
  place_of rows = (rows_id rows.slots, row_count_id (arc_value rows.count))

  -- the count that has the rows' lengths
  abbrev pub count_in : WakingRows J A → TableId
  count_in rows = row_count_id (arc_value rows.count)

  -- how many rows there are
  abbrev pub rows_in : WakingRows J A → ℕ
  rows_in rows = row_count_of rows.slots

  -- how many seats were made with the rows
  abbrev pub seats_in : WakingRows J A → ℕ
  seats_in rows = seat_count_of rows.slots

  -- the seat was made with the rows
  abbrev pub IsSeatOf : WakingRows J A → WakingSeat J → Type 0
  IsSeatOf rows seat = home_of seat ≡ place_of rows
