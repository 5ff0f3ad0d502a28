-- What a lowered expression means: a value for each place.
use Rattle.std.specs.Prelude.{◌≡◌, ℕ, ℤ, ◌+◌, ◌<◌, ◌≤◌, List, length}
use Rattle.std.specs.Coded.{×_prop, Π_prop, Unit-prop, le_prop}
use native.Mathlib.Nat.{ℕ_set}
use Rattle.tensor_shape.specs.Legal.{most_elements}
use Rattle.tensor_loops.specs.Chain.{chained}
use Rattle.tensor_loops.specs.Loops.{either_way, selected}
use Rattle.tensor_loops.specs.Putting.{other_at, IsAsLong}
use Rattle.tensor_loops.specs.declared.loops.putting.Others.{Others}
use Rattle.tensor_values.specs.Values.{value_in}
use Rattle.tensor_values.specs.Scalars.{applied}
use Rattle.tensor_values.specs.Interleaving.{interleaved, HaveTurns}
use Rattle.tensor_views.specs.Reading.{read_at}
use Rattle.tensor_views.specs.View.{view_size, reached}
use Rattle.tensor_ops.specs.declared.lowered.Lowered.{Lowered}
use Rattle.tensor_views.specs.declared.view.Reading.{Reading}
use Rattle.tensor_ops.specs.declared.lowered.Lowered.TheVariants.{Borrowed, Stored, Filled}
use Rattle.tensor_ops.specs.declared.lowered.Lowered.TheVariants.{Unary', Binary', Select', View'}
use Rattle.tensor_ops.specs.declared.lowered.Lowered.TheVariants.{Interleaved', Chain'}

-- the value at place p
abbrev pub meaning : Lowered → ℕ → ℤ
meaning (Borrowed values) p = value_in values.now p
meaning (Stored values) p = value_in values.items p
meaning (Filled value count) p = value
meaning (Unary' o k a) p = applied o (meaning a p)
meaning (Binary' link k a l b) p = either_way link.operation link.swapped (meaning a p) (meaning b p)
meaning (Chain' links k a l b) p = chained links.items (meaning a p) (meaning b p)
meaning (Select' order k a l b m c) p = selected order (meaning a p) (meaning b p) (meaning c p)
meaning (View' view k a) p = meaning a (reached view.start view.axes.items p)
meaning (Interleaved' turns k a l b) p = interleaved turns.first turns.second (meaning a) (meaning b) p

-- the number of places
abbrev pub count_of : Lowered → ℕ
count_of (Borrowed values) = length values.now
count_of (Stored values) = length values.items
count_of (Filled value count) = count
count_of (Unary' o k a) = count_of a
count_of (Binary' link k a l b) = count_of a
count_of (Chain' links k a l b) = count_of a
count_of (Select' order k a l b m c) = count_of a
count_of (View' view k a) = view_size view.axes.items
count_of (Interleaved' turns k a l b) = count_of a + count_of b

-- the depth of the tree
abbrev pub depth_of : Lowered → ℕ
depth_of (Borrowed values) = 0
depth_of (Stored values) = 0
depth_of (Filled value count) = 0
depth_of (Unary' o k a) = depth_of a + 1
depth_of (Binary' link k a l b) = depth_of a + depth_of b + 1
depth_of (Chain' links k a l b) = depth_of a + depth_of b + 1
depth_of (Select' order k a l b m c) = depth_of a + depth_of b + depth_of c + 1
depth_of (View' view k a) = depth_of a + 1
depth_of (Interleaved' turns k a l b) = depth_of a + depth_of b + 1

-- operands have the places that are read of them
abbrev pub IsSound : Lowered → Type 0
IsSound (Borrowed values) = Unit {0}
IsSound (Stored values) = Unit {0}
IsSound (Filled value count) = Unit {0}
IsSound (Unary' o k a) = IsSound a
IsSound (Binary' link k a l b) = IsSound a × (IsSound b × (count_of b ≡ count_of a))
IsSound (Chain' links k a l b) = IsSound a × (IsSound b × (count_of b ≡ count_of a))
IsSound (Select' order k a l b m c) =
    IsSound a × ((IsSound b × (count_of b ≡ count_of a)) × (IsSound c × (count_of c ≡ count_of a)))
IsSound (View' view k a) =
    IsSound a × ((count_of a ≤ most_elements)
    × ((p : ℕ) → p < view_size view.axes.items → reached view.start view.axes.items p < count_of a))
IsSound (Interleaved' turns k a l b) =
    IsSound a × (IsSound b × HaveTurns turns.first turns.second (count_of a) (count_of b))

-- IsSound is a proposition
pub IsSound-prop : (lowered : Lowered) → IsProp (IsSound lowered)
IsSound-prop (Borrowed values) = Unit-prop
IsSound-prop (Stored values) = Unit-prop
IsSound-prop (Filled value count) = Unit-prop
IsSound-prop (Unary' o k a) = IsSound-prop a
IsSound-prop (Binary' link k a l b) =
    ×_prop (IsSound-prop a) (×_prop (IsSound-prop b) (ℕ_set _ _))
IsSound-prop (Chain' links k a l b) =
    ×_prop (IsSound-prop a) (×_prop (IsSound-prop b) (ℕ_set _ _))
IsSound-prop (Select' order k a l b m c) =
    ×_prop (IsSound-prop a)
    (×_prop (×_prop (IsSound-prop b) (ℕ_set _ _)) (×_prop (IsSound-prop c) (ℕ_set _ _)))
IsSound-prop (View' view k a) =
    ×_prop (IsSound-prop a) (×_prop le_prop (Π_prop λ p. Π_prop λ below. le_prop))
IsSound-prop (Interleaved' turns k a l b) =
    ×_prop (IsSound-prop a)
    (×_prop (IsSound-prop b) (×_prop (×_prop le_prop le_prop) (×_prop (ℕ_set _ _) (ℕ_set _ _))))

-- the values of a lowered expression are this list
pub record IsListOf (lowered : Lowered) (values : List ℤ) : Type 0 where
  pub count : count_of lowered ≡ length values
  pub each : (p : ℕ) → meaning lowered p ≡ value_in values p

-- the second operand of a loop has these values
pub record AreOthers (others : Others) (values : List ℤ) : Type 0 where
  pub long : IsAsLong others (length values)
  pub each : (k : ℕ) → k < length values → other_at others k ≡ value_in values k

-- the values of a lowered expression are read along a view, all of whose places are in the list
pub record IsReadingOf (lowered : Lowered) (reading : Reading) : Type 0 where
  pub count : count_of lowered ≡ view_size reading.view.axes.now
  pub each : (p : ℕ) → meaning lowered p ≡ read_at reading p
  pub inside : (p : ℕ) → p < view_size reading.view.axes.now
      → reached reading.view.start reading.view.axes.now p < length reading.list.now
  pub few : length reading.list.now ≤ most_elements
