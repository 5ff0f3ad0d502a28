-- The most workers of a World.
use Rattle.std.specs.Prelude.{ℕ}

-- the most workers: 2 ^ 14 less two; the number 16,383 stands for nobody
abbrev pub most_workers : ℕ
most_workers = 16382
