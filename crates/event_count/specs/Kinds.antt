-- The two kinds of counts: a count with rows, which may be stopped, and a count alone.
use Rattle.std.specs.Prelude.{◌≡◌, ℕ, ◌<◌, Bool, true, false, slice_index_or}
use Rattle.event_count.specs.declared.rule.RowSizes.{RowSizes}
use Rattle.event_count.specs.declared.view.Card.{Card}

-- the kind of counts with rows
abbrev pub with_rows : Bool
with_rows = true

-- the kind of counts alone
abbrev pub without_rows : Bool
without_rows = false

-- sizes of this kind: a count alone has no rows
abbrev pub IsKind : Bool → RowSizes → Type 0
IsKind true k = Unit {0}
IsKind false k = k.rows ≡ 0

-- the seat has found the row empty since its prewait
abbrev pub has_passed_row : Card → ℕ → Bool
has_passed_row c row = slice_index_or c.passed row false

-- since its prewait the seat has found no stop, and each of the `rows` rows empty
pub record HasPassed (rows : ℕ) (c : Card) : Type 0 where
  pub flag : c.passed_flag ≡ true
  pub each : (row : ℕ) → row < rows → has_passed_row c row ≡ true

-- what a commit requires of the seat; at a count alone, nothing
abbrev pub MayCommit : Bool → RowSizes → Card → Type 0
MayCommit true k c = HasPassed k.rows c
MayCommit false k c = Unit {0}

-- what a prewait requires of the seat; at a count alone, nothing
abbrev pub MayPrewait : Bool → Card → Type 0
MayPrewait true c = c.announcing ≡ false
MayPrewait false c = Unit {0}
