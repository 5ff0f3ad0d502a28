-- What the calls on rows and on the stop word return.
use Rattle.std.specs.Prelude.{◌≡◌, ◌≢◌, ℕ, ◌<◌, ◌↔◌, Bool, false, IsTrue}
use Rattle.event_count.specs.declared.view.Card.{Card}
use Rattle.event_count.specs.declared.answers.PassAll.{PassAll}
use Rattle.event_count.specs.declared.answers.PassAll.TheVariants as pass_all
use Rattle.event_count.specs.Kinds.{HasPassed}
use Rattle.event_count.specs.Rows.Gains.{passing, passing_flag, stopping}

-- a look at the stop word, which passes the flag exactly if it returns true
abbrev pub IsPassFlag : Card → Bool → Card → Type 0
IsPassFlag c passed d =
    (found : ℕ) × (IsTrue passed ↔ (found ≡ 0)) × (d ≡ passing_flag c found)

-- a stop of the count, which is the seat's own exactly if it returns true
abbrev pub IsStop : Card → Bool → Card → Type 0
IsStop c stopped d = (found : ℕ) × (IsTrue stopped ↔ (found ≡ 0)) × (d ≡ stopping c found)

-- d is the card c after looks at rows and at the stop word
pub record IsAfterPasses (c d : Card) : Type 0 where
  pub waiters : d.waiters ≡ c.waiters
  pub rows : d.rows ≡ c.rows
  pub number : d.number ≡ c.number
  pub phase : d.phase ≡ c.phase
  pub owing : d.owing ≡ c.owing
  pub epoch : d.epoch ≡ c.epoch
  pub announcing : d.announcing ≡ c.announcing
  pub credits : d.credits ≡ c.credits
  pub book : d.book ≡ c.book

-- the row is the first in which the seat found jobs
pub record FindsJobs (rows : ℕ) (c : Card) (row : ℕ) (d before : Card) : Type 0 where
  pub known : row < rows
  pub same : IsAfterPasses c before
  pub passed : HasPassed row before
  pub jobs : d.found.word ≢ 0
  pub looked : d ≡ passing before row d.found.word

-- what `pass_all` returns after its looks at the stop word and at the rows, up to the first that
-- shows a stop or jobs
abbrev pub IsPassAll : ℕ → Card → PassAll → Card → Type 0
IsPassAll rows c pass_all.Passed d = HasPassed rows d
IsPassAll rows c pass_all.Stopped d = IsPassFlag c false d
IsPassAll rows c (pass_all.Jobs row) d = (before : Card) × FindsJobs rows c row d before
