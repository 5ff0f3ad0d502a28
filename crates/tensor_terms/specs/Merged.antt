-- Index lists in two parts: the indices at some of the axes, and the indices at the other axes.
use Rattle.std.specs.Prelude.{◌≡◌, ℕ, List, ◌++◌, length, map, slice_index, not}
use Rattle.std.specs.List.{filter, range_with_len}
use Rattle.tensor_shape.specs.Index.{size_of, IsIndexOf, index_of}
use Rattle.tensor_terms.specs.Movement.{is_among, scattered}

-- the axes below the rank that are in a list, in ascending order
abbrev pub among : List ℕ → ℕ → List ℕ
among axes rank = filter (λ k. is_among k axes) (range_with_len 0 rank)

-- the axes below the rank that are not in a list, in ascending order
abbrev pub others : List ℕ → ℕ → List ℕ
others axes rank = filter (λ k. not (is_among k axes)) (range_with_len 0 rank)

-- the dims at axes, in the order of the axes
abbrev pub dims_at : List ℕ → List ℕ → List ℕ
dims_at axes ds = map (λ s. slice_index ds s) axes

-- the dims at all other axes, in ascending order of the axes
abbrev pub other_dims : List ℕ → List ℕ → List ℕ
other_dims axes ds = dims_at (others axes (length ds)) ds

-- the index list with the indices js at these axes, in their order, and the indices is at the other
-- axes
abbrev pub merged : List ℕ → List ℕ → List ℕ → List ℕ → List ℕ
merged axes ds js is = scattered (axes ++ others axes (length ds)) (js ++ is) (map (λ d. 0) ds)

-- all index lists of dims, in order of their places
abbrev pub index_lists : List ℕ → List (List ℕ)
index_lists ds = map (index_of ds) (range_with_len 0 (size_of ds))

-- an index list is merged from its indices at these axes and its indices at the other axes, each an
-- index list of the dims there, and from no other two lists
pub record IsMergedOnce (axes ds index : List ℕ) : Type 0 where
  pub inner : IsIndexOf (dims_at axes ds) (dims_at axes index)
  pub outer : IsIndexOf (other_dims axes ds) (other_dims axes index)
  pub whole : merged axes ds (dims_at axes index) (other_dims axes index) ≡ index
  pub only : (js is : List ℕ) → IsIndexOf (dims_at axes ds) js → IsIndexOf (other_dims axes ds) is
      → merged axes ds js is ≡ index → (dims_at axes index ≡ js) × (other_dims axes index ≡ is)
