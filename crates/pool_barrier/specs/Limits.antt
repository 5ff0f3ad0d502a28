-- The limit of a barrier.
use Rattle.std.specs.Prelude.{ℕ}

-- the most notices of one barrier
abbrev pub most_notices : ℕ
most_notices = 2147483647
