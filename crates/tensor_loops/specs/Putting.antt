-- Results that are written over a buffer.
use Rattle.std.specs.Prelude.{◌≡◌, ◌+◌, ◌<◌, ◌≤◌, ℕ, ℤ, List, pos, length, slice_index_or}
use Rattle.tensor_loops.specs.declared.loops.putting.Others.{Others}
use Rattle.tensor_loops.specs.declared.loops.putting.Others.TheVariants.{Listed, Filled}
use Rattle.tensor_values.specs.Values.{value_in}
use Rattle.tensor_views.specs.declared.row.Row.{Row}
use Rattle.tensor_views.specs.View.{place_in}

-- the value of the second operand at an index
abbrev pub other_at : Others → ℕ → ℤ
other_at (Listed values) k = slice_index_or values.now k (pos 0)
other_at (Filled value) k = value

-- a list that is the second operand has `count` values
abbrev pub IsAsLong : Others → ℕ → Type 0
IsAsLong (Listed values) count = length values.now ≡ count
IsAsLong (Filled value) count = Unit {0}

-- `count` values from index `at` on are a list's values along a row; the other values stay
pub record PutsRow (old list : List ℤ) (row : Row) (at count : ℕ) (new : List ℤ) : Type 0 where
  pub len : length new ≡ length old
  pub each : (k : ℕ) → k < count → value_in new (at + k) ≡ value_in list (place_in row k)
  pub before : (k : ℕ) → k < at → value_in new k ≡ value_in old k
  pub after : (k : ℕ) → at + count ≤ k → value_in new k ≡ value_in old k
