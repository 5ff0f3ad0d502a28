-- Operations along one axis, on each line of values separately, and takes.
use Rattle.std.specs.Prelude.{ℕ, ℤ, ◌+◌, List, ◌∷◌, ◌++◌, length, map, take, drop}
use Rattle.std.specs.Prelude.{slice_index, remove, nat_lt, Ok, if◌then◌else◌}
use Rattle.std.specs.List.{range_with_len}
use Rattle.tensor_scans.specs.Lines.{along_line, is_cumulative, taken_from}
use Rattle.tensor_scans.specs.declared.operation.LineOperation.{LineOperation}
use Rattle.tensor_shape.specs.declared.bounds.Bounds.{Bounds}
use Rattle.tensor_terms.specs.Shaped.{Shaped, check, legal_dims}
use Rattle.tensor_terms.specs.declared.fault.ExprFault.TheVariants.{OutOfRange}

-- the index list with number k in the place of `width` numbers from an axis on
abbrev pub with_number : ℕ → ℕ → List ℕ → ℕ → List ℕ
with_number axis width is k = take axis is ++ k ∷ drop (axis + width) is

-- the values along an axis that an index list belongs to, if the index list has `width` numbers in
-- the place of the index at that axis
abbrev pub line : ℕ → ℕ → List ℕ → (List ℕ → ℤ) → List ℕ → List ℤ
line axis width ds a is =
    map (λ k. a (with_number axis width is k)) (range_with_len 0 (slice_index ds axis))

-- the result dims of an operation along an axis, or the fault of its check; the result lacks the
-- axis unless the operation is cumulative
abbrev pub along_dims : LineOperation → ℕ → List ℕ → Shaped
along_dims o axis ds =
    check (nat_lt axis (length ds)) OutOfRange (Ok (if is_cumulative o then ds else remove ds axis))

-- the value of an operation along an axis at an index list
abbrev pub along_value : LineOperation → ℕ → List ℕ → (List ℕ → ℤ) → List ℕ → ℤ
along_value o axis ds a is =
    along_line o (line axis (if is_cumulative o then 1 else 0) ds a is) (slice_index is axis)

-- dims with the dims es in the place of one axis
abbrev pub replaced_dims : ℕ → List ℕ → List ℕ → List ℕ
replaced_dims axis es ds = take axis ds ++ es ++ drop (axis + 1) ds

-- the result dims of a take along an axis within bounds, or the fault of the first check that fails
abbrev pub taken_dims : Bounds → ℕ → List ℕ → List ℕ → Shaped
taken_dims bounds axis ds es =
    check (nat_lt axis (length ds)) OutOfRange (legal_dims bounds (replaced_dims axis es ds))

-- the value of a take at an index list: the first operand's value at the number along the axis that
-- the second operand holds, and 0 if the axis has no such number
abbrev pub taken :
    ℕ → List ℕ → List ℕ → (List ℕ → ℤ) → (List ℕ → ℤ) → List ℕ → ℤ
taken axis ds es a numbers is =
    taken_from (line axis (length es) ds a is) (numbers (take (length es) (drop axis is)))
