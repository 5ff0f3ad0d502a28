-- What argmax and argmin know after the first values of a line.
use Rattle.std.specs.Prelude.{◌≡◌, ℕ, ℤ, pos, ◌<◌, List, [], ◌∷◌, ◌++◌, length}
use Rattle.tensor_scans.specs.Lines.{first_place, reducer_of}
use Rattle.tensor_scans.specs.declared.operation.LineOperation.{LineOperation}
use Rattle.tensor_values.specs.Combining.{combination}

-- the best of the first values xs of a line, and its first place in xs
pub record IsSeen (o : LineOperation) (xs : List ℤ) (best first : ℤ) : Type 0 where
  pub combined : best ≡ combination (reducer_of o) xs
  pub place : first ≡ pos (first_place best xs)
  pub stands : 0 < length xs → first_place best xs < length xs

-- for each list of the given number of values: the old pair is known of the list, and so the new
-- pair is known of the list with x behind it
abbrev pub SeesMore : LineOperation → ℕ → ℤ → (old new : ℤ × ℤ) → Type 0
SeesMore o number x old new = (xs : List ℤ) → length xs ≡ number
    → IsSeen o xs old.0 old.1 → IsSeen o (xs ++ x ∷ []) new.0 new.1
