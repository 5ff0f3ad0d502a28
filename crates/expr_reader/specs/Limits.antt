-- The limits of texts and of frames.
use Rattle.std.specs.Prelude.{ℕ}

-- the most bytes of a text or a header
abbrev pub most_bytes : ℕ
most_bytes = 16777216

-- the most values after a header of version 1 or 2
abbrev pub most_values : ℕ
most_values = 16777216

-- the most values after any header
abbrev pub widest_values : ℕ
widest_values = 4294967296

-- the most workers of any version
abbrev pub most_workers : ℕ
most_workers = 256

-- the greatest block of a text
abbrev pub greatest_block : ℕ
greatest_block = 1048576

-- the greatest block of any version
abbrev pub widest_block : ℕ
widest_block = 268435456

-- the most nodes of a text's expression
abbrev pub most_nodes : ℕ
most_nodes = 1000

-- the most nodes of an expression of any version
abbrev pub widest_nodes : ℕ
widest_nodes = 10000

-- the greatest size that an argument may be
abbrev pub greatest_size : ℕ
greatest_size = 9223372036854775807
