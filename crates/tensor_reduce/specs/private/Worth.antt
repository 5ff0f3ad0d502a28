-- The number of workers with which a load takes least time, by the rule. Times are in nanoseconds.
use Rattle.std.specs.Prelude.{◌≡◌, ℕ, ◌+◌, ◌*◌, ◌/◌, ◌^◌, ◌≤◌, min, nat_lt, if◌then◌else◌}
use Rattle.tensor_reduce.specs.declared.schedule.worth.Load.{Load}

-- the time to open and close a pool
abbrev pub pool_time : ℕ
pool_time = 40000

-- what one more worker of a pool counts: three times the time of its start, which is 60,000 on the
-- machine of the table and longer on others
abbrev pub start_time : ℕ
start_time = 180000

-- the time to hand out one leaf
abbrev pub leaf_time : ℕ
leaf_time = 400

-- the time to write a thousand values
abbrev pub written_time : ℕ
written_time = 1000

-- the time to copy a thousand values of leaves into the list of all values
abbrev pub joined_time : ℕ
joined_time = 1200

-- the longest time that is counted
abbrev pub longest_time : ℕ
longest_time = 2 ^ 50

-- a load of computing values in leaves, which takes one thread the time cost
pub record IsLoadOf (values cost leaves : ℕ) (load : Load) : Type 0 where
  pub work : load.work ≡ min (cost + values * written_time / 1000) longest_time
  pub handing : load.handing ≡ min (leaves * leaf_time) longest_time
  pub joining : load.joining ≡ min (values * joined_time / 1000) longest_time

-- the time that a load takes on n workers; one worker is the calling thread, without a pool
abbrev pub time_on : Load → ℕ → ℕ
time_on load n =
    if nat_lt 1 n
    then (load.work + load.handing) / n + load.joining + pool_time + start_time * n
    else load.work

-- no number of workers up to the number asked for takes less time than n
abbrev pub IsQuickest : Load → ℕ → ℕ → Type 0
IsQuickest load asked n = (m : ℕ) → 1 ≤ m → m ≤ asked → time_on load n ≤ time_on load m

-- n is the number of workers that a load is worth, of those asked for
pub record IsWorth (load : Load) (asked n : ℕ) : Type 0 where
  pub least : 1 ≤ n
  pub most : 1 ≤ asked → n ≤ asked
  pub quickest : IsQuickest load asked n

-- n is the number of workers that the load of computing values in leaves is worth
abbrev pub IsWorthOf : ℕ → ℕ → ℕ → ℕ → ℕ → Type 0
IsWorthOf values cost leaves asked n =
    (load : Load) × (IsLoadOf values cost leaves load × IsWorth load asked n)
