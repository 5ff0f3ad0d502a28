-- Tables of places: those of an operand's rows, and how far the values of a row are from there.
use Rattle.std.proofs.Common.{◌≡◌, ℕ, ◌+◌, ◌-◌, ◌<◌, List, length, filter, not, slice_index, true}
use Rattle.std.proofs.Common.{ap, subst, ◌∙◌, arith}
use Rattle.std.specs.List.{range_with_len}
use Rattle.tensor_shape.specs.Index.{size_of, place, index_of}
use Rattle.tensor_shape.proofs.Places.{IsIndexOf-index_of, place-below-size_of}
use Rattle.tensor_terms.specs.Movement.{is_among}
use Rattle.tensor_views.specs.Offsets.{offset_of, HasOffsets, HasTables}
use Rattle.tensor_terms.specs.Reduction.{are_axes}
use Rattle.tensor_terms.specs.Merged.{dims_at, other_dims, others, merged}
use Rattle.tensor_terms.proofs.Weaving.{IsIndexOf-merged}
use Rattle.tensor_views.proofs.MergedPlaces.{place-merged}

module _ (ds axes : List ℕ) (legal : are_axes (length ds) axes ≡ true) (x q : ℕ)
    (row : x < size_of (other_dims axes ds)) (value : q < size_of (dims_at axes ds)) where
  -- a value's place is that of its row and its offset, added up
  pub offset_of-merged : offset_of (others axes (length ds)) ds x + offset_of axes ds q
      ≡ place ds (merged axes ds (index_of (dims_at axes ds) q) (index_of (other_dims axes ds) x))
  offset_of-merged =
      let both = place-merged axes ds legal (index_of (dims_at axes ds) q) (index_of
      (other_dims axes ds) x)
      (IsIndexOf-index_of (dims_at axes ds) q value) in
      omega (arith, both)

  -- and one of the operand's
  pub merged-below :
      place ds (merged axes ds (index_of (dims_at axes ds) q) (index_of (other_dims axes ds) x))
      < size_of ds
  merged-below =
      place-below-size_of ds _ (IsIndexOf-merged axes ds legal (index_of (dims_at axes ds) q)
      (index_of (other_dims axes ds) x) (IsIndexOf-index_of (dims_at axes ds) q value)
      (IsIndexOf-index_of (other_dims axes ds) x row))

  pub offset_of-below : offset_of (others axes (length ds)) ds x + offset_of axes ds q < size_of ds
  offset_of-below = omega (arith, offset_of-merged, merged-below)

-- the kept axes, from those that were found
pub kept-others : (axes ds sizes found kept : List ℕ) → sizes ≡ ds → kept ≡ found
    → found ≡ filter (λ k. not (is_among k axes)) (range_with_len 0 (length sizes - 0))
    → kept ≡ others axes (length ds)
kept-others axes ds sizes found kept same is by_test =
    is ∙ by_test
    ∙ ap (λ n. filter (λ k. not (is_among k axes)) (range_with_len 0 n)) (omega (
      arith,
      ap length same,
    ))

pub has_tables : (starts offsets kept axes ds : List ℕ) → are_axes (length ds) axes ≡ true
    → kept ≡ others axes (length ds) → HasOffsets starts kept ds → HasOffsets offsets axes ds
    → HasTables starts offsets axes ds
has_tables starts offsets kept axes ds legal is rows values =
    record {
      legal = legal;
      rows = subst (λ axes. HasOffsets starts axes ds) is rows;
      values =
          values;
    }

module _ (starts offsets axes ds : List ℕ) (tables : HasTables starts offsets axes ds) (x q : ℕ)
    (row : x < length starts) (value : q < length offsets) where
  -- what they have at a row and a value, added up
  sum_of_tables : slice_index starts x + slice_index offsets q
      ≡ offset_of (others axes (length ds)) ds x + offset_of axes ds q
  sum_of_tables =
      let left = tables.rows.each x (omega (arith, tables.rows.len)) in
      let right = tables.values.each q (omega (arith, tables.values.len)) in
      cc (left, right)

  pub sum_of_tables-merged : slice_index starts x + slice_index offsets q
      ≡ place ds (merged axes ds (index_of (dims_at axes ds) q) (index_of (other_dims axes ds) x))
  sum_of_tables-merged =
      sum_of_tables ∙ offset_of-merged ds axes tables.legal x q (omega (arith, tables.rows.len))
      (omega (arith, tables.values.len))

  pub sum_of_tables-below : slice_index starts x + slice_index offsets q < size_of ds
  sum_of_tables-below =
      omega (
        arith,
        sum_of_tables,
        offset_of-below ds axes tables.legal x q (omega (arith, tables.rows.len))
            (omega (arith, tables.values.len)),
      )
