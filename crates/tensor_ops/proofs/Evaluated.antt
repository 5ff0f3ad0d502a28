-- Lists of values in order of place, and values at index lists.
use Rattle.std.proofs.Common.{◌≡◌, ℕ, ℤ, pos, ◌+◌, ◌<◌, ◌≤◌, List, length, map, ap, ◌∙◌, arith}
use Rattle.std.specs.List.{range_with_len}
use Rattle.std.proofs.lemmas.List.FromFn.{length-map-range_with_len, get_or-map-range_with_len}
use Rattle.tensor_shape.specs.Index.{size_of, IsIndexOf, place}
use Rattle.tensor_shape.proofs.Places.{place-below-size_of, index_of-place}
use Rattle.tensor_terms.specs.Contents.{Contents, value_at}
use Rattle.tensor_terms.specs.Result.{shape_of}
use Rattle.tensor_terms.specs.Term.{Term}
use Rattle.tensor_terms.specs.Value.{value, value_of_place, values_from, tensor_of}
use Rattle.tensor_values.proofs.Runs.{map-shifted}

module _ (inputs : List Contents) (t : Term) where
  -- a function that has the term's values at all places gives its values
  pub map-values_from : (f : ℕ → ℤ) (first count : ℕ) → ((p : ℕ) → p < size_of (shape_of t inputs) → f p ≡ value_of_place t inputs p)
      → first + count ≤ size_of (shape_of t inputs) → map f (range_with_len first count) ≡ values_from t inputs first count
  map-values_from f first count same within =
      map-shifted f (value_of_place t inputs) first first count (λ k below. same (first + k) (omega arith))

  -- the number of values is count
  pub length-values_from : (first count : ℕ) → length (values_from t inputs first count) ≡ count
  length-values_from first count = length-map-range_with_len (value_of_place t inputs) first count

  -- a tensor has the term's value at each index list
  pub value_at-tensor_of : (index : List ℕ) → IsIndexOf (shape_of t inputs) index
      → value_at (tensor_of t inputs) index ≡ value t inputs index
  value_at-tensor_of index h =
      get_or-map-range_with_len (value_of_place t inputs) 0 (size_of (shape_of t inputs)) (place (shape_of t inputs) index)
      (place (shape_of t inputs) index) (pos 0) (place-below-size_of (shape_of t inputs) index h) (omega arith)
      ∙ ap (value t inputs) (index_of-place (shape_of t inputs) index h)

  -- dims and values that are the term's are its tensor
  pub tensor_of-made : (made : Contents) (count : ℕ) → made.dims ≡ shape_of t inputs → made.values ≡ values_from t inputs 0 count
      → count ≡ size_of (shape_of t inputs) → made ≡ tensor_of t inputs
  tensor_of-made made count dims values whole =
      let all : made.values ≡ values_from t inputs 0 (size_of (shape_of t inputs)) = values ∙ ap (values_from t inputs 0) whole in
      let make : List ℕ → List ℤ → Contents = λ d v. record { dims = d; values = v } in
      ap (λ d. make d made.values) dims ∙ ap (make (shape_of t inputs)) all
