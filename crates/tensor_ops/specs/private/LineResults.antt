-- The values of lines that were made ready.
use Rattle.std.specs.Prelude.{ℕ, ℤ, length}
use Rattle.std.specs.Cow.{cow_slice_items}
use Rattle.tensor_scans.specs.Lines.{width_of}
use Rattle.tensor_scans.specs.Places.{along_at, line_values, taken_at}
use Rattle.tensor_scans.specs.declared.lines.Lines.{Lines}
use Rattle.tensor_values.specs.Values.{value_in}
use Rattle.tensor_ops.specs.declared.operands.along.LineResults.{LineResults}
use Rattle.tensor_ops.specs.declared.operands.along.PerLine.{PerLine}
use Rattle.tensor_ops.specs.declared.operands.along.PerLine.TheVariants.{Operation, Taken}

-- the number of values that a line of count values becomes
abbrev pub width_given : PerLine → ℕ → ℕ
width_given (Operation o) count = width_of o count
width_given (Taken numbers) count = length (cow_slice_items numbers)

-- the value at place p of the result
abbrev pub value_given : PerLine → Lines → (ℕ → ℤ) → ℕ → ℤ
value_given (Operation o) lines f p = along_at o lines f p
value_given (Taken numbers) lines f p = taken_at lines (cow_slice_items numbers) f p

-- the number of places of the result
abbrev pub places_along : LineResults → ℕ
places_along a = line_values a.lines (width_given a.per_line a.lines.length)

-- the value at place p of the result, by the values of a
abbrev pub value_along : LineResults → ℕ → ℤ
value_along a p = value_given a.per_line a.lines (value_in (cow_slice_items a.values)) p
