-- How many items are held in lists at a time, beside the result.
use Rattle.std.specs.Prelude.{ℕ, ◌*◌, max}

-- how many items a batch has for each worker, unless a leaf has more
abbrev pub held_items : ℕ
held_items = 65536

-- the most items of a batch, given the number of workers and of a leaf's items
abbrev pub most_items : ℕ → ℕ → ℕ
most_items workers leaf = max 1 workers * max held_items leaf
