-- The limits of a count.
use Rattle.std.specs.Prelude.{ℕ}

-- the most waiters of one count
abbrev pub most_waiters : ℕ
most_waiters = 16382

-- the limit of a seat's epochs: each epoch is below it
abbrev pub epoch_limit : ℕ
epoch_limit = 4194304
