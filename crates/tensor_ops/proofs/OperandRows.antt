-- Where the values of an operand's rows lie.
use Rattle.std.proofs.Common.{◌≡◌, ℕ, ℤ, ◌+◌, ◌<◌, List, length, slice_index, true}
use Rattle.std.proofs.Common.{ap, ◌∙◌, arith}
use Rattle.tensor_shape.specs.Index.{size_of}
use Rattle.tensor_views.specs.Offsets.{HasTables}
use Rattle.tensor_ops.specs.private.OperandRows.{IsOperand}
use Rattle.tensor_terms.specs.Reduction.{are_axes}
use Rattle.tensor_views.proofs.OffsetTables.{merged-below, sum_of_tables-merged}

-- rows that have what an operand's rows have are an operand's
pub operand-made : (m n m' n' : ℕ) (value other : ℕ → ℕ → ℤ) (at : ℕ → ℤ) (ds axes : List ℕ)
    → m ≡ m' → n ≡ n' → ((x q : ℕ) → value x q ≡ other x q)
    → IsOperand m' n' other at ds axes → IsOperand m n value at ds axes
operand-made m n m' n' value other at ds axes count len same is = record {
  count = count ∙ is.count;
  len = len ∙ is.len;
  each = λ x q row column.
      same x q ∙ is.each x q (omega (arith, count)) (omega (arith, len));
}

-- rows of values that are the same at all places of the operand
pub operand-same : (rows width : ℕ) (value : ℕ → ℕ → ℤ) (of other : ℕ → ℤ) (ds axes : List ℕ)
    → are_axes (length ds) axes ≡ true → ((p : ℕ) → p < size_of ds → of p ≡ other p)
    → IsOperand rows width value of ds axes → IsOperand rows width value other ds axes
operand-same rows width value of other ds axes legal same is = record {
  count = is.count;
  len = is.len;
  each = λ x q row below.
      is.each x q row below
      ∙ same _ (merged-below ds axes legal x q (omega (arith, is.count)) (omega (arith, is.len)));
}

-- the values at the places that two tables add up to are the operand's
pub tables-operand : (starts offsets axes ds : List ℕ) (value : ℕ → ℕ → ℤ) (of : ℕ → ℤ)
    → HasTables starts offsets axes ds
    → ((x q : ℕ) → x < length starts → q < length offsets
    → value x q ≡ of (slice_index starts x + slice_index offsets q))
    → IsOperand (length starts) (length offsets) value of ds axes
tables-operand starts offsets axes ds value of tables same = record {
  count = tables.rows.len;
  len = tables.values.len;
  each = λ x q row below.
      same x q row below ∙ ap of (sum_of_tables-merged starts offsets axes ds tables x q row below);
}
