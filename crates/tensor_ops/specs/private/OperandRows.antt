-- The rows of an operand, by its dims and the axes that are paired.
use Rattle.std.specs.Prelude.{◌≡◌, ℕ, ℤ, ◌<◌, List}
use Rattle.tensor_shape.specs.Index.{size_of, place, index_of}
use Rattle.tensor_terms.specs.Merged.{dims_at, other_dims, merged}

-- the value of an operand at paired index list q and kept index list x, both given by their places;
-- at gives the operand's value at a place
abbrev pub operand_value : (ℕ → ℤ) → List ℕ → List ℕ → ℕ → ℕ → ℤ
operand_value at ds axes x q =
    at (place ds (merged axes ds (index_of (dims_at axes ds) q) (index_of (other_dims axes ds) x)))

-- rows of the given number and width are the rows of an operand: a row for each kept index list, in
-- it a value for each paired index list
pub record IsOperand (rows width : ℕ) (value : ℕ → ℕ → ℤ) (at : ℕ → ℤ) (ds axes : List ℕ)
    : Type 0 where
  pub count : rows ≡ size_of (other_dims axes ds)
  pub len : width ≡ size_of (dims_at axes ds)
  pub each : (x q : ℕ) → x < rows → q < width → value x q ≡ operand_value at ds axes x q
