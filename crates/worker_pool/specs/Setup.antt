-- Which numbers of workers a pool may have, and which partitions.
use Rattle.std.specs.Prelude.{◌≡◌, ◌≢◌, ℕ, ◌<◌, ◌≤◌, ◌⊎◌, List, length, All, Any}
use Rattle.std.specs.Prelude.{slice_get, unwrap_or}
use Rattle.run_queue.specs.Limits.{most_rows}
use Rattle.steal_walk.specs.Partition.{RowRange}

-- at least one worker, and at most one for each row
abbrev pub IsPoolSize : ℕ → Type 0
IsPoolSize workers = (1 ≤ workers) × (workers ≤ most_rows)

-- no worker, or more than there are rows
abbrev pub IsNoPoolSize : ℕ → Type 0
IsNoPoolSize workers = (workers ≡ 0) ⊎ (most_rows < workers)

-- no partition or one for each worker, and each ends inside the pool
abbrev pub ArePartitions : (workers : ℕ) → List RowRange → Type 0
ArePartitions workers ranges =
    ((length ranges ≡ 0) ⊎ (length ranges ≡ workers)) × All (λ r. r.limit ≤ workers) ranges

-- some partitions and not one for each worker, or one that ends past the pool
abbrev pub AreNoPartitions : (workers : ℕ) → List RowRange → Type 0
AreNoPartitions workers ranges =
    ((0 < length ranges) × (length ranges ≢ workers)) ⊎ Any (λ r. workers < r.limit) ranges

-- all rows of a pool
abbrev pub whole : (workers : ℕ) → RowRange
whole workers = record { start = 0; limit = workers }

-- where the worker `number` looks first: in its partition, or in all rows if it has none
abbrev pub home_of : (workers : ℕ) → List RowRange → (number : ℕ) → RowRange
home_of workers ranges number = unwrap_or (slice_get ranges number) (whole workers)
