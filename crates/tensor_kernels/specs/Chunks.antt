-- The products of a contraction, cut into chunks of 128.
use Rattle.std.specs.Prelude.{ℕ, zero, suc, ℤ, pos, ◌+◌, ◌*◌, List, length, min}
use Rattle.std.specs.List.{slice_range}

-- the first of n products that is in chunk c, and the end of the chunk before it
abbrev pub chunk_start : ℕ → ℕ → ℕ
chunk_start n c = min (c * 128) n

-- the offsets of chunk c
abbrev pub chunk : List ℕ → ℕ → List ℕ
chunk offsets c =
    slice_range offsets (chunk_start (length offsets) c) (chunk_start (length offsets) (c + 1))

-- what the sum of a chunk is added to: 0 for chunk 0, and for a later one the value that stands
-- there
abbrev pub before : ℕ → ℤ → ℤ
before zero v = pos 0
before (suc c) v = v
