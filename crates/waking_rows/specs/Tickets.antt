-- Jobs in rows, beside their tickets.
use Rattle.std.specs.Prelude.{◌≡◌, ℕ, List, map, Result, Ok, Err}
use Rattle.event_count.specs.Seated.{TableId}
use Rattle.event_count.specs.declared.view.Card.{Card}
use Rattle.event_count.specs.Rows.Gains.{redeeming}
use Rattle.event_count.specs.Rows.Seats.{row_of, ticket_id}
use Rattle.waking_rows.specs.declared.ticketed.Ticketed.{Ticketed}

module _ {J : Type 0} where
  -- the job's ticket is of this count and of this row
  pub record IsCounted (count : TableId) (row : ℕ) (it : Ticketed J) : Type 0 where
    pub ours : ticket_id it.ticket ≡ count
    pub there : row_of it.ticket ≡ row

  -- the jobs without their tickets
  abbrev pub jobs_in : List (Ticketed J) → List J
  jobs_in items = map (λ it. it.job) items

  -- the result of a push, by the result for its slot: the job comes back if it was not laid into
  -- the slot
  abbrev pub job_back : Result (Unit {0}) (Ticketed J) → Result (Unit {0}) J
  job_back (Ok done) = Ok done
  job_back (Err it) = Err it.job

  -- the card of a seat that has published, once the ticket of a job that was not laid into its slot
  -- was given back
  abbrev pub giving_back : Result (Unit {0}) (Ticketed J) → Card → Card
  giving_back (Ok done) c = c
  giving_back (Err it) c = redeeming c (row_of it.ticket)
