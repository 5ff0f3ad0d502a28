-- Where lines lie among the values of a tensor.
use Rattle.std.specs.Prelude.{ℕ, ℤ, ◌+◌, ◌*◌, ◌/◌, ◌%◌, List, length, map}
use Rattle.std.specs.List.{range_with_len}
use Rattle.tensor_scans.specs.Lines.{along_line, taken_from, width_of}
use Rattle.tensor_scans.specs.declared.lines.Lines.{Lines}
use Rattle.tensor_scans.specs.declared.operation.LineOperation.{LineOperation}
use Rattle.tensor_values.specs.Values.{value_in}

-- how many values a tensor has in which each line has `width` values
abbrev pub line_values : Lines → ℕ → ℕ
line_values lines width = lines.stride * width * lines.blocks

-- the place of number k in the line that place p of the result belongs to, if each line has `width`
-- values in the result
abbrev pub line_place : Lines → ℕ → ℕ → ℕ → ℕ
line_place lines width p k =
    p % lines.stride + lines.stride * (k + lines.length * (p / (lines.stride * width)))

-- the number that place p of the result has in its line
abbrev pub number_at : Lines → ℕ → ℕ → ℕ
number_at lines width p = p / lines.stride % width

-- the line of the operand that place p of the result belongs to
abbrev pub line_through : Lines → ℕ → (ℕ → ℤ) → ℕ → List ℤ
line_through lines width f p =
    map (λ k. f (line_place lines width p k)) (range_with_len 0 lines.length)

-- the value at a place of the result of an operation along lines
abbrev pub along_at : LineOperation → Lines → (ℕ → ℤ) → ℕ → ℤ
along_at o lines f p =
    along_line o (line_through lines (width_of o lines.length) f p)
    (number_at lines (width_of o lines.length) p)

-- the value at a place of the result of a take, in which each line has one value for each number
abbrev pub taken_at : Lines → List ℤ → (ℕ → ℤ) → ℕ → ℤ
taken_at lines numbers f p =
    taken_from (line_through lines (length numbers) f p)
    (value_in numbers (number_at lines (length numbers) p))
