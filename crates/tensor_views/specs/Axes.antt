-- The axes of a view, and where the view of a movement over it starts.
use Rattle.std.specs.Prelude.{◌≡◌, ℕ, ◌+◌, ◌*◌, ◌<◌, List, [], ◌∷◌, length}
use Rattle.std.specs.Prelude.{slice_index, slice_index_or}
use Rattle.std.specs.Prelude.{Bool, true, false, not, ◌&&◌, nat_eq}
use Rattle.tensor_terms.specs.Term.{Movement, broadcast, slice, shuffle, reshape, chip, reverse}
use Rattle.tensor_terms.specs.Term.{stride}
use Rattle.tensor_views.specs.Forward.{forward, no_axis}
use Rattle.tensor_views.specs.declared.axis.Axis.{Axis}

-- the axes of all places of dims, if neighbours along the first axis lie `step` apart
abbrev pub axes_from : ℕ → List ℕ → List Axis
axes_from step [] = []
axes_from step (d ∷ ds) = forward d step ∷ axes_from (step * d) ds

-- whether each axis has the size of its dimension and goes up
abbrev pub are_along : List Axis → List ℕ → Bool
are_along [] [] = true
are_along [] (d ∷ ds) = false
are_along (a ∷ rest) [] = false
are_along (a ∷ rest) (d ∷ ds) = (nat_eq a.size d && not a.reversed) && are_along rest ds

-- the sum of each index times the step of its axis
abbrev pub by_steps : List Axis → List ℕ → ℕ
by_steps [] is = 0
by_steps (a ∷ rest) [] = 0
by_steps (a ∷ rest) (i ∷ is) = i * a.step + by_steps rest is

-- the arguments of a movement are for n axes
abbrev pub HasRank : Movement → ℕ → Type 0
HasRank (broadcast counts) n = length counts ≡ n
HasRank (slice offsets extents) n = (length offsets ≡ n) × (length extents ≡ n)
HasRank (shuffle order) n = (k : ℕ) → k < length order → slice_index order k < n
HasRank (reshape sizes) n = Unit {0}
HasRank (chip offset axis) n = axis < n
HasRank (reverse flags) n = length flags ≡ n
HasRank (stride steps) n = (length steps ≡ n) × ((k : ℕ) → k < n → 0 < slice_index steps k)

-- each axis spans fewer than n places
abbrev pub AreShort : List Axis → ℕ → Type 0
AreShort axes n = (k : ℕ) → k < length axes
    → (slice_index_or axes k no_axis).step * (slice_index_or axes k no_axis).size < n

-- the start of the view of a movement, given the start and the axes of the operand's view
abbrev pub moved_start : Movement → ℕ → List Axis → ℕ
moved_start (broadcast counts) start axes = start
moved_start (slice offsets extents) start axes = start + by_steps axes offsets
moved_start (shuffle order) start axes = start
moved_start (reshape sizes) start axes = start
moved_start (chip offset axis) start axes = start + offset * (slice_index_or axes axis no_axis).step
moved_start (reverse flags) start axes = start
moved_start (stride steps) start axes = start
