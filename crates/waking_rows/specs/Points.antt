-- The parts of a point over a count with rows that contracts name, and what its calls do.
use Rattle.std.specs.Prelude.{◌≡◌, ◌≢◌, ℕ, zero, suc, ◌<◌, ◌⊎◌, Bool, true, false}
use Rattle.std.specs.Arc.{arc_value}
use Rattle.event_count.specs.Seated.{TableId}
use Rattle.event_count.specs.declared.view.Card.{Card}
use Rattle.event_count.specs.declared.answers.Committed.{Committed}
use Rattle.event_count.specs.declared.answers.PassAll.TheVariants as pass_all
use Rattle.event_count.specs.Gains.{prewaiting}
use Rattle.event_count.specs.Kinds.{with_rows, has_passed_row}
use Rattle.event_count.specs.Waits.{RestsOnCommit, RestsOnCancel, RestsOnNotifyAll}
use Rattle.event_count.specs.Rows.Calls.{IsPassAll, IsAfterPasses, IsPassFlag, IsStop}
use Rattle.event_count.specs.Rows.Gains.{passing}
use Rattle.event_count.specs.Rows.Seats.{row_count_id, row_sizes_of}
use Rattle.waking_rows.specs.declared.row_point.RowPoint.{RowPoint}
use Rattle.waking_rows.specs.declared.row_point.Rested.{Rested}
use Rattle.waking_rows.specs.declared.row_point.Rested.TheVariants as rested

module _ {A : Type 0} where
  -- the count over which the point is
  abbrev pub count_at : RowPoint A → TableId
  count_at point = row_count_id (arc_value point.count)

  -- how many seats may wait at the point
  abbrev pub waiters_at : RowPoint A → ℕ
  waiters_at point = (row_sizes_of (arc_value point.count)).waiters

  -- how many rows a thread looks at before it sleeps at the point
  abbrev pub rows_at : RowPoint A → ℕ
  rows_at point = (row_sizes_of (arc_value point.count)).rows

-- a rest that names a row names one of these rows
abbrev pub NamesRow : ℕ → Rested → Type 0
NamesRow rows rested.Slept = Unit {0}
NamesRow rows (rested.Jobs row) = row < rows
NamesRow rows rested.Ended = Unit {0}

-- the card after the first rows, as many as the number says, were found empty one after the other
abbrev pub passing_rows : ℕ → Card → Card
passing_rows zero c = c
passing_rows (suc rows) c = passing (passing_rows rows c) rows 0

-- the seat found each of these rows empty, one after the other, and so has passed them all
pub record FindsNoJobs (rows : ℕ) (c d : Card) : Type 0 where
  pub looked : d ≡ passing_rows rows c
  pub passed : (row : ℕ) → row < rows → has_passed_row d row ≡ true

-- the seat found the rows before this one empty, one after the other, and then jobs in this row
pub record FindsJobsFirst (rows row : ℕ) (c d : Card) : Type 0 where
  pub known : row < rows
  pub jobs : d.found.word ≢ 0
  pub looked : d ≡ passing (passing_rows row c) row d.found.word

-- from a prewait on, a thread that sleeps: it passes the flag and these rows, and then commits
abbrev pub SleepsPastRows : ℕ → Card → Card → Type 0
SleepsPastRows rows c d = (between : Card) × (answer : Committed)
    × IsPassAll rows c pass_all.Passed between × IsAfterPasses c between
    × RestsOnCommit with_rows between answer d

-- from a prewait on, a thread that passes the flag, finds jobs first in this row, and cancels
abbrev pub LeavesForJobs : ℕ → ℕ → Card → Card → Type 0
LeavesForJobs rows row c d = (between : Card) × IsPassAll rows c (pass_all.Jobs row) between
    × IsAfterPasses c between × RestsOnCancel with_rows between d

-- from a prewait on, a thread that finds the count stopped, then jobs first in this row, and
-- cancels
abbrev pub LeavesForLastJobs : ℕ → ℕ → Card → Card → Type 0
LeavesForLastJobs rows row c d = (stopped between : Card) × IsPassFlag c false stopped
    × FindsJobsFirst rows row stopped between × RestsOnCancel with_rows between d

-- from a prewait on, a thread that finds the count stopped, then each row empty, and cancels
abbrev pub LeavesAtEnd : ℕ → Card → Card → Type 0
LeavesAtEnd rows c d = (stopped between : Card) × IsPassFlag c false stopped
    × FindsNoJobs rows stopped between × RestsOnCancel with_rows between d

-- what a rest does from its prewait on, by its result; it does nothing else
abbrev pub EndsRest : ℕ → Card → Rested → Card → Type 0
EndsRest rows c rested.Slept d = SleepsPastRows rows c d
EndsRest rows c (rested.Jobs row) d =
    LeavesForJobs rows row c d ⊎ LeavesForLastJobs rows row c d
EndsRest rows c rested.Ended d = LeavesAtEnd rows c d

-- a rest: a prewait, and what follows on it
abbrev pub RestsByRows : ℕ → Card → Rested → Card → Type 0
RestsByRows rows c answer d = EndsRest rows (prewaiting c) answer d

-- a stop, by this seat or by another before it, and then a notification of all
abbrev pub StopsAndWakes : Card → Card → Type 0
StopsAndWakes c d = (stopped : Bool) × (between : Card) × IsStop c stopped between
    × RestsOnNotifyAll with_rows between d
