-- The state of an operation after the first values of a line.
use Rattle.std.specs.Prelude.{◌≡◌, ℤ, ◌<◌, List, length, false}
use Rattle.tensor_scans.specs.Lines.{first_place, is_cumulative, reducer_of}
use Rattle.tensor_scans.specs.declared.operation.LineOperation.{LineOperation}
use Rattle.tensor_scans.specs.declared.progress.Progress.{Progress}
use Rattle.tensor_values.specs.Combining.{combination}

-- p is the state after the values xs: their combination, how many they are, and for argmax and
-- argmin the first place of the combination in xs
pub record IsProgress (o : LineOperation) (xs : List ℤ) (p : Progress) : Type 0 where
  pub combined : p.combined ≡ combination (reducer_of o) xs
  pub count : p.count ≡ length xs
  pub first : is_cumulative o ≡ false → p.first ≡ first_place p.combined xs
  pub stands : is_cumulative o ≡ false → 0 < length xs → p.first < length xs
