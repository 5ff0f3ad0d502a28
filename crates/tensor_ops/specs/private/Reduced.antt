-- The values of a reduction that was made ready.
use Rattle.std.specs.Prelude.{ℕ, ℤ, ◌+◌, ◌*◌, length}
use Rattle.std.specs.Cow.{cow_slice_items}
use Rattle.tensor_loops.specs.Folds.{folded, offset_at}
use Rattle.tensor_ops.specs.private.Starts.{start_at}
use Rattle.tensor_values.specs.Values.{value_in}
use Rattle.tensor_values.specs.Combining.{unit}
use Rattle.tensor_values.specs.declared.reducer.Reducer.{Reducer}
use Rattle.tensor_ops.specs.declared.operands.reduction.Reduction.{Reduction}

-- the number of places of the result
abbrev pub places_of_result : Reduction → ℕ
places_of_result s = length s.starts.items * s.group * s.width

-- a value x, combined with the operand's values for place p of the result
abbrev pub combined_at : Reduction → Reducer → ℤ → ℕ → ℤ
combined_at s r x p =
    folded r x
    (λ q. value_in (cow_slice_items s.values)
    (start_at s.starts.items s.group s.width s.run p
    + offset_at s.offsets.items s.width s.run q))
    (length s.offsets.items * s.run)

-- the value at place p of the result
abbrev pub reduction_at : Reduction → ℕ → ℤ
reduction_at s p = combined_at s s.reducer (unit s.reducer) p
