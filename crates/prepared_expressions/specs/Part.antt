-- Values of a term, written over the first elements of a list.
use Rattle.std.specs.Prelude.{◌≡◌, ◌-◌, ◌++◌, ℕ, ℤ, List, length, drop, min}
use Rattle.tensor_ops.specs.Contents.{Contents}
use Rattle.tensor_ops.specs.Index.{size_of}
use Rattle.tensor_ops.specs.Result.{shape_of}
use Rattle.tensor_ops.specs.Term.{Term}
use Rattle.tensor_ops.specs.Value.{values_from}

-- the values from place `first` on are the first elements of the list: as many as there are, and as
-- fit. The others stay
pub record IsPart (t : Term) (inputs : List Contents) (first : ℕ) (old : List ℤ) (count : ℕ)
    (new : List ℤ) : Type 0 where
  pub many : count ≡ min (size_of (shape_of t inputs) - first) (length old)
  pub values : new ≡ values_from t inputs first count ++ drop count old
