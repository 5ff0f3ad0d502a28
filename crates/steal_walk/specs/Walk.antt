-- The walk of a thief: which rows it looks at, and in which order.

use Rattle.std.specs.Prelude.{◌≡◌, ℕ, ◌+◌, ◌-◌, ◌*◌, ◌/◌, ◌%◌, ◌^◌, ◌<◌, ◌≤◌, ◌==◌}
use Rattle.std.specs.Prelude.{List, length, map, slice_index, All, count_by}
use Rattle.std.specs.List.{range_with_len}
use Rattle.steal_walk.specs.Coprimes.{coprimes_of}

-- the number below n that lies as far along as the word among the 2^32 words of 32 bits
abbrev pub place_of : ℕ → ℕ → ℕ
place_of word n = word * n / 2 ^ 32

-- the step that the word picks for n rows: the number at its place among the coprimes of n
unfoldable pub step_of : ℕ → ℕ → ℕ
step_of word n = slice_index (coprimes_of n) (place_of word (length (coprimes_of n)))

-- the first `count` rows of a walk round the n rows from start on: row k is k steps past first,
-- modulo n
unfoldable pub rows_of : (start n first step count : ℕ) → List ℕ
rows_of start n first step count =
    map (λ k. start + (first + k * step) % n) (range_with_len 0 count)

-- the walk over the rows in `[start, limit)` that the word picks
unfoldable pub walk_of : (word start limit : ℕ) → List ℕ
walk_of word start limit =
    let n = limit - start in rows_of start n (place_of word n) (step_of word n) n

-- the state of a walk over n rows from start on: its place is one of theirs, and its step and rows
-- fit
pub record IsOnCourse (start n place step : ℕ) : Type 0 where
  pub inside : place < n
  pub short : step ≤ n
  pub fits : start + n < 2 ^ 32

-- each row in `[start, limit)` stands once in the list, and the list has no other rows
pub record VisitsEachOnce (start limit : ℕ) (rows : List ℕ) : Type 0 where
  pub as_many : length rows ≡ limit - start
  pub within : All (λ row. (start ≤ row) × (row < limit)) rows
  pub once : (row : ℕ) → start ≤ row → row < limit → count_by (λ x. x == row) rows ≡ 1
