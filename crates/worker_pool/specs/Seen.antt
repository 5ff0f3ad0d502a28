-- What a worker has found since it entered the wait point: which rows were empty, and whether the
-- pool was open.
use Rattle.std.specs.Prelude.{◌≡◌, ℕ, ◌<◌, ◌==◌, ◌⊎◌, Bool, true, false, not, replicate}
use Rattle.std.specs.Prelude.{slice_set, slice_index_or}
use Rattle.worker_pool.specs.declared.queues.job_queue.seen.Seen.{Seen}
use Rattle.worker_pool.specs.declared.queues.job_queue.seen.TheConstants.{ROWS}
use Rattle.worker_pool.specs.Stops.{open_word, cancelled_word}

-- the worker has looked at nothing
abbrev pub none_seen : Seen
none_seen = record { rows = replicate ROWS false; flag = false; stopped = false }

-- the last look at the row found it empty
abbrev pub has_passed : Seen → (row : ℕ) → Bool
has_passed seen row = slice_index_or seen.rows row false

-- the state after a look at the row, in which `count` jobs were
abbrev pub after_look : Seen → (row count : ℕ) → Seen
after_look seen row count = record seen { rows = slice_set seen.rows row (count == 0) }

-- the state after a look at the stop word, which held this: the rows are still to be looked at
abbrev pub after_stop_look : (word : ℕ) → Seen
after_stop_look word = record {
  rows = replicate ROWS false;
  flag = word == open_word;
  stopped = not (word == open_word);
}

-- the worker has found each of the first `count` rows empty
abbrev pub HasPassedRows : (count : ℕ) → Seen → Type 0
HasPassedRows count seen = (row : ℕ) → row < count → has_passed seen row ≡ true

-- the worker has found the pool closing or cancelled, and since then each of `count` rows empty
pub record HasFoundTheEnd (count : ℕ) (seen : Seen) : Type 0 where
  pub stopped : seen.stopped ≡ true
  pub passed : HasPassedRows count seen

-- The worker's last look at the stop word found the pool cancelled, or the worker has found the
-- end.
abbrev pub MayEnd : (count : ℕ) → Seen → (found : ℕ) → Type 0
MayEnd count seen found = (found ≡ cancelled_word) ⊎ HasFoundTheEnd count seen
