-- Lines, which are the values along an axis, and the results of operations on them.
use Rattle.std.specs.Prelude.{ℕ, ℤ, pos, ◌+◌, List, [], ◌∷◌, take, slice_index_or}
use Rattle.std.specs.Prelude.{Bool, true, false, if◌then◌else◌, int_lt, unsigned_abs}
use Rattle.std.specs.Ordering.{int_eq}
use Rattle.tensor_values.specs.Combining.{combination}
use Rattle.tensor_values.specs.declared.reducer.Reducer.{Reducer}
use Rattle.tensor_values.specs.declared.reducer.Reducer.TheVariants.{Sum, Prod, Max, Min}
use Rattle.tensor_scans.specs.declared.operation.LineOperation.{LineOperation}
use Rattle.tensor_scans.specs.declared.operation.LineOperation.TheVariants.{Cumsum, Cumprod}
use Rattle.tensor_scans.specs.declared.operation.LineOperation.TheVariants.{Argmax, Argmin}

-- the first place of a value in a list; the length of the list if it isn't there
abbrev pub first_place : ℤ → List ℤ → ℕ
first_place v [] = 0
first_place v (x ∷ xs) = if int_eq x v then 0 else first_place v xs + 1

-- the reducer that combines the values
abbrev pub reducer_of : LineOperation → Reducer
reducer_of Cumsum = Sum
reducer_of Cumprod = Prod
reducer_of Argmax = Max
reducer_of Argmin = Min

-- whether the result has one value for each value of a line, and not one value for the line
abbrev pub is_cumulative : LineOperation → Bool
is_cumulative Cumsum = true
is_cumulative Cumprod = true
is_cumulative Argmax = false
is_cumulative Argmin = false

-- the result for some values: their combination, or its first place among them
abbrev pub outcome : LineOperation → List ℤ → ℤ
outcome o xs =
    if is_cumulative o then combination (reducer_of o) xs
    else pos (first_place (combination (reducer_of o) xs) xs)

-- the result for a line at number i
abbrev pub along_line : LineOperation → List ℤ → ℕ → ℤ
along_line o line i = outcome o (if is_cumulative o then take (i + 1) line else line)

-- the number of values in the result for a line of `length` values
abbrev pub width_of : LineOperation → ℕ → ℕ
width_of o length = if is_cumulative o then length else 1

-- the value of a line at number j; 0 if the line has no such number
abbrev pub taken_from : List ℤ → ℤ → ℤ
taken_from line j = if int_lt j (pos 0) then pos 0 else slice_index_or line (unsigned_abs j) (pos 0)
