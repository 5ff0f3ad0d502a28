-- Two tensors, one after the other along an axis.
use Rattle.std.specs.Prelude.{ℕ, ℤ, ◌+◌, ◌-◌, List, length, slice_index, slice_set, remove}
use Rattle.std.specs.Prelude.{nat_eq, nat_lt, if◌then◌else◌}
use Rattle.std.specs.Cmp.Lexicographic.{pointwise}
use Rattle.tensor_shape.specs.declared.bounds.Bounds.{Bounds}
use Rattle.tensor_terms.specs.Shaped.{Shaped, check, check_lengths, legal_dims}
use Rattle.tensor_terms.specs.declared.fault.ExprFault.TheVariants.{ShapeMismatch, OutOfRange}

-- the first dims, with the second dimension added along the axis
abbrev pub joined_dims : ℕ → List ℕ → List ℕ → List ℕ
joined_dims axis ds es = slice_set ds axis (slice_index ds axis + slice_index es axis)

-- the result dims of a concatenation within bounds, or the fault of the first check that fails
abbrev pub concatenated_dims : Bounds → ℕ → List ℕ → List ℕ → Shaped
concatenated_dims bounds axis ds es =
    check_lengths ds es (check (nat_lt axis (length ds)) OutOfRange
    (check (pointwise nat_eq (remove ds axis) (remove es axis)) ShapeMismatch
    (legal_dims bounds (joined_dims axis ds es))))

-- the value of a concatenation at an index list: a value of the first operand, or of the second
-- operand behind it
abbrev pub concatenated : ℕ → List ℕ → (List ℕ → ℤ) → (List ℕ → ℤ) → List ℕ → ℤ
concatenated axis ds a b is =
    if nat_lt (slice_index is axis) (slice_index ds axis)
    then a is
    else b (slice_set is axis (slice_index is axis - slice_index ds axis))
