-- Which lengths of a block a range can be cut by.
use Rattle.std.specs.Prelude.{◌≡◌, ℕ, ◌<◌, ◌≤◌, ◌⊎◌}
use Rattle.parallel_for.specs.Leaves.{blocks_of}

-- the most leaves that a range can have
abbrev pub most_leaves : ℕ
most_leaves = 2147483647

-- the block is longer than 0, and there are not too many blocks
abbrev pub IsBlockLength : (n block : ℕ) → Type 0
IsBlockLength n block = (0 < block) × (blocks_of n block ≤ most_leaves)

-- the block is 0, or there are too many blocks
abbrev pub IsNoBlockLength : (n block : ℕ) → Type 0
IsNoBlockLength n block = (block ≡ 0) ⊎ (most_leaves < blocks_of n block)
