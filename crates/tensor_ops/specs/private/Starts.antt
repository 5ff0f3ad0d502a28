-- Where a reduction begins to read.
use Rattle.std.specs.Prelude.{ℕ, ◌+◌, ◌*◌, ◌/◌, ◌%◌, List}
use Rattle.tensor_loops.specs.Folds.{offset_at}

-- where the first of the values lies that are combined at place p of the result: the result is made
-- of rows of `width` places; the first rows that are combined lie a run of `run` rows apart in each
-- group, and each group begins at a start
abbrev pub start_at : List ℕ → ℕ → ℕ → ℕ → ℕ → ℕ
start_at starts group width run p =
    offset_at starts (width * run) group (p / width) + p % width
