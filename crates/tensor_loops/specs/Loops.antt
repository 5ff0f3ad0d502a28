-- Operations on values whose operands are evaluated in either order.
use Rattle.std.specs.Prelude.{◌≡◌, ℕ, ℤ, pos, ◌+◌, ◌<◌, ◌≤◌, Bool, List, length}
use Rattle.std.specs.Prelude.{[], ◌∷◌, nat_eq, nat_le, false, slice_index_or, if◌then◌else◌}
use Rattle.tensor_values.specs.Scalars.{combined, is_true}
use Rattle.tensor_values.specs.declared.operations.BinaryScalar.{BinaryScalar}
use Rattle.tensor_loops.specs.declared.loops.SelectOrder.{SelectOrder}
use Rattle.tensor_loops.specs.declared.loops.SelectOrder.TheVariants as order
use Rattle.tensor_views.specs.declared.axis.Axis.{Axis}
use Rattle.tensor_views.specs.declared.row.Row.{Row}
use Rattle.tensor_views.specs.View.{place_in}

-- the operation on two values, with the operands exchanged if swapped
abbrev pub either_way : BinaryScalar → Bool → ℤ → ℤ → ℤ
either_way o swapped x y = if swapped then combined o y x else combined o x y

-- the value of a select, from the values of its operands in the order in which they are evaluated
abbrev pub selected : SelectOrder → ℤ → ℤ → ℤ → ℤ
selected order.ConditionFirst c a b = if is_true c then a else b
selected order.YesFirst a c b = if is_true c then a else b
selected order.NoFirst b c a = if is_true c then a else b

-- whether rows are long: the first axis of a size other than 1 has at least 16 places
abbrev pub has_long_rows : List Axis → Bool
has_long_rows [] = false
has_long_rows (a ∷ rest) = if nat_eq a.size 1 then has_long_rows rest else nat_le 16 a.size

-- `count` values from index `at` on become the results of the operation on them and a list's values
-- along a row; the other values stay
pub record CombinesRow (o : BinaryScalar) (swapped : Bool) (old list : List ℤ) (row : Row) (at count : ℕ)
    (new : List ℤ) : Type 0 where
  pub len : length new ≡ length old
  pub each : (k : ℕ) → k < count → slice_index_or new (at + k) (pos 0)
      ≡ either_way o swapped (slice_index_or old (at + k) (pos 0))
      (slice_index_or list (place_in row k) (pos 0))
  pub before : (k : ℕ) → k < at → slice_index_or new k (pos 0) ≡ slice_index_or old k (pos 0)
  pub after : (k : ℕ) → at + count ≤ k → slice_index_or new k (pos 0) ≡ slice_index_or old k (pos 0)
