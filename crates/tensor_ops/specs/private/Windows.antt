-- Convolutions as products of rows: a row for each index list of the result, in it the values that
-- lie under the kernel.
use Rattle.std.specs.Prelude.{◌≡◌, ℕ, ℤ, ◌<◌, List}
use Rattle.tensor_shape.specs.Index.{size_of, place, index_of}
use Rattle.tensor_terms.specs.Convolution.{window_index}
use Rattle.tensor_values.specs.Values.{value_in}

-- rows of the given number and width are the rows of an operand: a row for each index list of the
-- result dims rs, in it a value for each index list of the kernel's dims ks
pub record IsUnderKernel (rows width : ℕ) (value : ℕ → ℕ → ℤ) (values : List ℤ)
    (axes ds ks rs : List ℕ) : Type 0 where
  pub count : rows ≡ size_of rs
  pub len : width ≡ size_of ks
  pub each : (x q : ℕ) → x < rows → q < width
      → value x q ≡ value_in values (place ds (window_index axes (index_of ks q) (index_of rs x)))

-- one row, which has all values in order
pub record IsOneRow (rows width : ℕ) (value : ℕ → ℕ → ℤ) (values : List ℤ) (count : ℕ) :
    Type 0 where
  pub one : rows ≡ 1
  pub len : width ≡ count
  pub each : (q : ℕ) → q < width → value 0 q ≡ value_in values q
