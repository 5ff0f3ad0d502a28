-- Result dims that are there, and the values at places of them.
use Rattle.std.proofs.Common.{◌≡◌, ℕ, ◌<◌, pos, List, [], get_or, Ok, Err, IsOk, refl, ap, sym, ◌∙◌}
use Rattle.std.specs.Result.{result_unwrap_or}
use Rattle.tensor_shape.specs.Legal.{widest}
use Rattle.tensor_shape.specs.Index.{size_of, IsIndexOf, place, index_of}
use Rattle.tensor_shape.proofs.Places.{IsIndexOf-index_of, place-index_of, index_of-place}
use Rattle.tensor_terms.specs.Contents.{Contents, input_of}
use Rattle.tensor_terms.specs.Movement.{moved, moved_dims}
use Rattle.tensor_terms.specs.Result.{dims_of, shape_of}
use Rattle.tensor_terms.specs.Shaped.{Shaped, with_one, with_two, with_three}
use Rattle.tensor_terms.specs.Term.{Term, input, unary, Movement, movement}
use Rattle.tensor_terms.specs.Value.{value, value_of_place}
use Rattle.tensor_terms.proofs.Moved.{IsIndexOf-moved}

-- dims that are there
pub Ok-unwrap : (shaped : Shaped) → IsOk shaped → shaped ≡ Ok (result_unwrap_or shaped [])
Ok-unwrap (Ok d) h = refl
Ok-unwrap (Err fault) h = (cc)

-- an operation on one operand has dims only where that has
pub with_one-known : (own : List ℕ → Shaped) (first : Shaped) → IsOk (with_one own first)
    → (IsOk first) × (with_one own first ≡ own (result_unwrap_or first []))
with_one-known own (Ok d) h = (refl, refl)
with_one-known own (Err fault) h = (cc)

-- an operation on two operands has dims only where both have
pub with_two-known : (own : List ℕ → List ℕ → Shaped) (first second : Shaped) → IsOk (with_two own first second)
    → (IsOk first) × (IsOk second) × (with_two own first second ≡ own (result_unwrap_or first []) (result_unwrap_or second []))
with_two-known own (Ok d) (Ok e) h = (refl, refl, refl)
with_two-known own (Ok d) (Err fault) h = (cc)
with_two-known own (Err fault) second h = (cc)

-- and is that on the dims that they have
pub with_two-over : (own : List ℕ → List ℕ → Shaped) (first second : Shaped) (ds es : List ℕ)
    → ds ≡ result_unwrap_or first [] → es ≡ result_unwrap_or second [] → IsOk (with_two own first second)
    → with_two own first second ≡ own ds es
with_two-over own first second ds es left right h = rw (left, right) (with_two-known own first second h).2

-- an operation on three operands has dims only where all have
pub with_three-known : (own : List ℕ → List ℕ → List ℕ → Shaped) (a b c : Shaped)
    → IsOk (with_three own a b c)
    → IsOk a × IsOk b × IsOk c ×
    (with_three own a b c
    ≡ own (result_unwrap_or a []) (result_unwrap_or b []) (result_unwrap_or c []))
with_three-known own (Ok d) (Ok e) (Ok f) h = (refl, refl, refl, refl)
with_three-known own (Ok d) (Ok e) (Err fault) h = (cc)
with_three-known own (Ok d) (Err fault) c h = (cc)
with_three-known own (Err fault) b c h = (cc)

-- the place of the operand, of these dims, that is read for a place of the result
abbrev pub place_read : Movement → List ℕ → ℕ → ℕ
place_read m ds p = place ds (moved m ds (index_of (result_unwrap_or (moved_dims widest m ds) []) p))

module _ (inputs : List Contents) where
  -- the value of an input at a place
  pub value_of_place-input : (n p : ℕ) → p < size_of (input_of inputs n).dims
      → value_of_place (input n) inputs p ≡ get_or (input_of inputs n).values p (pos 0)
  value_of_place-input n p below = ap (λ q. get_or (input_of inputs n).values q (pos 0)) (place-index_of (input_of inputs n).dims p below)

  -- the value of a movement at a place
  pub value_of_place-movement : (m : Movement) (a : Term) (p : ℕ) → IsOk (dims_of widest (unary (movement m) a) inputs)
      → p < size_of (shape_of (unary (movement m) a) inputs)
      → value_of_place (unary (movement m) a) inputs p ≡ value_of_place a inputs (place_read m (shape_of a inputs) p)
  value_of_place-movement m a p has_dims below =
      let ds : List ℕ = shape_of a inputs in
      let es : List ℕ = result_unwrap_or (moved_dims widest m ds) [] in
      let known = with_one-known (moved_dims widest m) (dims_of widest a inputs) has_dims in
      let shape : shape_of (unary (movement m) a) inputs ≡ es = ap (λ r. result_unwrap_or r []) known.1 in
      let dims : moved_dims widest m ds ≡ Ok es = Ok-unwrap (moved_dims widest m ds) (rw known.1 at has_dims) in
      let within : p < size_of es = rw shape at below in
      let inside : IsIndexOf ds (moved m ds (index_of es p)) = IsIndexOf-moved m ds es (index_of es p) dims (IsIndexOf-index_of es p within) in
      ap (λ s. value a inputs (moved m ds (index_of s p))) shape
      ∙ ap (value a inputs) (sym (index_of-place ds (moved m ds (index_of es p)) inside))
