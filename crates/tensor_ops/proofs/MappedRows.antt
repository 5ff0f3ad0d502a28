-- Rows of a list along a view, whose tables are mapped along it.
use Rattle.std.proofs.Common.{◌≡◌, ℕ, ℤ, ◌+◌, ◌<◌, ◌≤◌, List, length, slice_index, ap, sym, subst, ◌∙◌, arith}
use Rattle.tensor_shape.specs.Index.{size_of}
use Rattle.tensor_views.specs.Offsets.{HasTables}
use Rattle.tensor_kernels.specs.Panels.{AreInside}
use Rattle.tensor_values.specs.Values.{value_in}
use Rattle.tensor_ops.specs.private.OperandRows.{IsOperand}
use Rattle.tensor_views.specs.View.{view_size, reached, AreAllApart}
use Rattle.tensor_terms.specs.Merged.{others}
use Rattle.tensor_views.specs.declared.axis.Axis.{Axis}
use Rattle.tensor_views.proofs.Apart.{IsMapped, mapped-sum}
use Rattle.tensor_ops.proofs.OperandRows.{tables-operand}
use Rattle.tensor_views.proofs.OffsetTables.{sum_of_tables-below}
use Rattle.tensor_terms.proofs.OtherAxes.{are_axes-others}
use Rattle.tensor_terms.proofs.DimsAt.{some-dims_at}
use Rattle.tensor_views.proofs.Views.{reached-start}

-- a table that is mapped along axes is mapped along a view that has the same
pub IsMapped-along : (from start : ℕ) (axes view : List Axis) (places mapped : List ℕ) → from ≡ start
    → axes ≡ view → length mapped ≡ length places
    → ((k : ℕ) → k < length places
    → slice_index mapped k ≡ reached from axes (slice_index places k))
    → IsMapped start view places mapped
IsMapped-along from start axes view places mapped begins same len each = record {
  len = len;
  each = λ k below.
      each k below ∙ ap (λ s. reached s axes (slice_index places k)) begins
      ∙ ap (λ axes. reached start axes (slice_index places k)) same;
}

-- where there are values, all places of both tables are the operand's
module _ (starts offsets axes ds : List ℕ) (tables : HasTables starts offsets axes ds)
    (some : 0 < size_of ds) where
  pub starts-below : (x : ℕ) → x < length starts → slice_index starts x < size_of ds
  starts-below x row =
      let value : 0 < length offsets =
      omega (arith, tables.values.len, some-dims_at axes ds tables.legal some) in
      omega (arith, sum_of_tables-below starts offsets axes ds tables x 0 row value)

  pub offsets-below : (q : ℕ) → q < length offsets → slice_index offsets q < size_of ds
  offsets-below q value =
      let row : 0 < length starts =
      omega (
        arith,
        tables.rows.len,
        some-dims_at (others axes (length ds)) ds (are_axes-others axes (length ds)) some,
      ) in
      omega (arith, sum_of_tables-below starts offsets axes ds tables 0 q row value)

-- from no start a view reaches no further
pub reached-none : (start : ℕ) (axes : List Axis) (p : ℕ) → reached 0 axes p ≤ reached start axes p
reached-none start axes p = omega (arith, reached-start start axes p)

module _ (values : List ℤ) (start : ℕ) (view : List Axis)
    (starts offsets first second axes ds : List ℕ)
    (tables : HasTables starts offsets axes ds) (apart : AreAllApart view 1 starts offsets)
    (is_first : IsMapped start view starts first) (is_second : IsMapped 0 view offsets second) where
  pub mapped-inside : view_size view ≡ size_of ds
      → ((p : ℕ) → p < view_size view → reached start view p < length values)
      → AreInside values first second
  mapped-inside size inside x q row value =
      let below = sum_of_tables-below starts offsets axes ds tables x q (omega (arith, is_first.len))
      (omega (arith, is_second.len)) in
      omega (
        arith,
        mapped-sum start view starts offsets first second apart is_first is_second x q row value,
        inside (slice_index starts x + slice_index offsets q) (omega (arith, size)),
      )

  pub mapped-operand : IsOperand (length first) (length second)
      (λ x q. value_in values (slice_index first x + slice_index second q))
      (λ p. value_in values (reached start view p)) ds axes
  mapped-operand =
      let value : ℕ → ℕ → ℤ = λ x q. value_in values (slice_index first x + slice_index second q) in
      let of : ℕ → ℤ = λ p. value_in values (reached start view p) in
      let is : IsOperand (length starts) (length offsets) value of ds axes =
      tables-operand starts offsets axes ds value of tables
      (λ x q row below. ap (value_in values) (mapped-sum start view starts offsets first second apart
      is_first is_second x q (omega (arith, is_first.len)) (omega (arith, is_second.len)))) in
      subst (λ n. IsOperand n (length second) value of ds axes) (sym is_first.len)
      (subst (λ n. IsOperand (length starts) n value of ds axes) (sym is_second.len) is)
