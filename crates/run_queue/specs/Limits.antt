-- The greatest number of rows, and of jobs in a row.
use Rattle.std.specs.Prelude.{ℕ}

-- the greatest number of rows
abbrev pub most_rows : ℕ
most_rows = 256

-- the greatest number of jobs in a row
abbrev pub most_jobs : ℕ
most_jobs = 1024
