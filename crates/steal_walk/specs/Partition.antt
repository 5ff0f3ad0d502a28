-- Partitions: the ranges of rows in which a worker looks first.

use Rattle.std.specs.Prelude.{ℕ}

-- the rows in `[start, limit)`
pub record RowRange : Type 0 where
  pub start : ℕ
  pub limit : ℕ
