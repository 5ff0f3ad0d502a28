-- The places of index lists that are 0 except at some axes.
use Rattle.std.specs.Prelude.{◌≡◌, ℕ, ◌<◌, List, length, map, slice_index, true}
use Rattle.tensor_shape.specs.Index.{size_of, place, index_of}
use Rattle.tensor_terms.specs.Movement.{scattered}
use Rattle.tensor_terms.specs.Reduction.{are_axes}
use Rattle.tensor_terms.specs.Merged.{dims_at, others}

-- the place of the index list that has the indices of place p of the axes' dims at these axes, and
-- 0 at all other axes
abbrev pub offset_of : List ℕ → List ℕ → ℕ → ℕ
offset_of axes ds p = place ds (scattered axes (index_of (dims_at axes ds) p) (map (λ d. 0) ds))

-- a table of the places of all index lists that are 0 except at these axes
pub record HasOffsets (offsets axes ds : List ℕ) : Type 0 where
  pub len : length offsets ≡ size_of (dims_at axes ds)
  pub each : (p : ℕ) → p < size_of (dims_at axes ds) → slice_index offsets p ≡ offset_of axes ds p

-- a table of the starts of an operand's rows, and a table of the distances of values in a row
pub record HasTables (starts offsets axes ds : List ℕ) : Type 0 where
  pub legal : are_axes (length ds) axes ≡ true
  pub rows : HasOffsets starts (others axes (length ds)) ds
  pub values : HasOffsets offsets axes ds
