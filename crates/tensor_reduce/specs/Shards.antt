-- Shards: index lists cut into ranges that are evaluated apart.
use Rattle.std.specs.Prelude.{ℕ, ◌+◌, ◌-◌, ◌*◌, ◌/◌, ◌%◌, min, max}
use Rattle.std.specs.Prelude.{List, [], ◌∷◌, ◌++◌, map}
use Rattle.std.specs.List.{range_with_len}
use Rattle.tensor_reduce.specs.declared.shards.Shards.{Shards}

-- a range of index lists: its first one, and the one after its last
abbrev pub Shard : Type 0
Shard = ℕ × ℕ

-- the quotient, rounded up; 0 by 0 is 0
abbrev pub div_up : ℕ → ℕ → ℕ
div_up n k = n / k + min 1 (n % k)

-- the most shards of a value
abbrev pub most_shards : ℕ
most_shards = 1024

-- the width of shards: a block, or more if there would be too many of them
abbrev pub width_of : (inner block : ℕ) → ℕ
width_of inner block = max block (div_up inner most_shards)

-- shard i of inner index lists
abbrev pub shard_at : (inner width i : ℕ) → Shard
shard_at inner width i = (i * width, min ((i + 1) * width) inner)

-- the shards of a width, in order; without index lists there is one, the empty range
abbrev pub shards_by : (inner width : ℕ) → List Shard
shards_by inner width = map (shard_at inner width) (range_with_len 0 (max 1 (div_up inner width)))

-- the shards that a block gives
abbrev pub shards_of : (inner block : ℕ) → List Shard
shards_of inner block = shards_by inner (width_of inner block)

-- the shards that a value of the code's type stands for
abbrev pub shards_in : Shards → List Shard
shards_in s = shards_by s.inner s.width

-- the number of index lists that are cut
abbrev pub lists_cut : Shards → ℕ
lists_cut s = s.inner

-- the numbers of the index lists in a shard
abbrev pub lists_in : Shard → List ℕ
lists_in shard = range_with_len shard.0 (shard.1 - shard.0)

-- the numbers of the index lists in several shards, one after the other
abbrev pub lists_of : List Shard → List ℕ
lists_of [] = []
lists_of (shard ∷ shards) = lists_in shard ++ lists_of shards
