-- Leaves: the blocks that a range of places is cut into.
use Rattle.std.specs.Prelude.{ℕ, ◌+◌, ◌-◌, ◌*◌, ◌/◌, ◌%◌, min, List, map}
use Rattle.std.specs.List.{range_with_len}

-- a range of places: its first place, and the place after its last
abbrev pub Range : Type 0
Range = ℕ × ℕ

-- how many blocks n places have: n / block, rounded up
abbrev pub blocks_of : (n block : ℕ) → ℕ
blocks_of n block = n / block + min 1 (n % block)

-- block i of the n places from first on; the last block ends with these places
abbrev pub leaf : (first n block i : ℕ) → Range
leaf first n block i = (first + i * block, first + min ((i + 1) * block) n)

-- the blocks of the places in [first, last), in order
abbrev pub leaves_of : (first last block : ℕ) → List Range
leaves_of first last block =
    let n = last - first in map (leaf first n block) (range_with_len 0 (blocks_of n block))

-- the place at which a range is cut in two: half of its places from the first on, rounded up to
-- whole blocks
abbrev pub middle : (first last block : ℕ) → ℕ
middle first last block = first + blocks_of ((last - first) / 2) block * block
