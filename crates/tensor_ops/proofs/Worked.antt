-- Operations on operands that were lowered, and values that were computed.
use Rattle.std.proofs.Common.{◌≡◌, ℕ, ℤ, pos, ◌<◌, List, ◌++◌, length, take, map, [], Ok, refl, ap, sym, ◌∙◌}
use Rattle.std.proofs.Common.{subst, arith}
use Rattle.std.specs.List.{range_with_len}
use Rattle.std.specs.Result.{result_unwrap_or}
use Rattle.std.proofs.Math.Seq.{take-append_seam}
use Rattle.std.proofs.lemmas.List.FromFn.{length-map-range_with_len, get_or-map-range_with_len}
use Rattle.tensor_shape.specs.Legal.{widest}
use Rattle.tensor_shape.specs.Index.{size_of, place, index_of}
use Rattle.tensor_shape.proofs.Places.{place-below-size_of, index_of-place, place-index_of}
use Rattle.tensor_shape.proofs.Places.{IsIndexOf-index_of}
use Rattle.tensor_terms.specs.Contents.{Contents}
use Rattle.tensor_terms.specs.Contraction.{outer_dims, contracted, contracted_dims}
use Rattle.tensor_ops.specs.private.Meaning.{meaning, count_of, IsSound, IsListOf}
use Rattle.tensor_values.specs.Values.{value_in}
use Rattle.tensor_ops.specs.private.Lowering.{Gives, HasValues, meaning_at}
use Rattle.tensor_terms.specs.Reduction.{reduced, reduced_dims}
use Rattle.tensor_terms.specs.Result.{shape_of, unary_dims, binary_dims}
use Rattle.tensor_terms.specs.Term.{Term, unary, binary, Unary, Binary}
use Rattle.tensor_terms.specs.Value.{value, unary_value, binary_value}
use Rattle.tensor_terms.specs.Merged.{other_dims}
use Rattle.tensor_ops.specs.declared.lowered.Lowered.{Lowered}
use Rattle.tensor_values.specs.declared.reducer.Reducer.{Reducer}
use Rattle.tensor_terms.proofs.Known.{reduction-known, contraction-known}
use Rattle.tensor_ops.proofs.Lowerings.{gives-index, gives-other}
use Rattle.tensor_ops.proofs.SameTensors.{agree-unary, agree-binary}
use Rattle.tensor_terms.proofs.SameValues.{Agree, reduced-other, contracted-other}

-- the result dims of a reduction, and of a contraction
reduced-shape : (axes ds rs : List ℕ) → reduced_dims axes ds ≡ Ok rs → other_dims axes ds ≡ rs
reduced-shape axes ds rs dims =
    ap (λ r. result_unwrap_or r []) (sym (reduction-known axes ds (rw dims refl)).dims ∙ dims)

contracted-shape : (pairs : List (ℕ × ℕ)) (ds es rs : List ℕ)
    → contracted_dims widest pairs ds es ≡ Ok rs → outer_dims pairs ds es ≡ rs
contracted-shape pairs ds es rs dims =
    ap (λ r. result_unwrap_or r []) (sym (contraction-known pairs ds es (rw dims refl)).dims ∙ dims)

module _ (inputs : List Contents) where
  -- an operation on one tensor, of an operand that was lowered
  pub agree-term : (t : Term) (o : Unary) (a : Lowered) (ds rs : List ℕ)
      → Gives a ds (value t inputs)
      → ds ≡ shape_of t inputs → unary_dims widest o ds ≡ Ok rs
      → Agree rs (unary_value o ds (meaning_at a ds)) (value (unary o t) inputs)
  agree-term t o a ds rs operand shape dims index is_index =
      agree-unary o ds rs (meaning_at a ds) (value t inputs) dims
      (λ js. gives-index a ds (value t inputs) js operand) index is_index
      ∙ ap (λ d. unary_value o d (value t inputs) index) shape

  pub gives-unary : (t : Term) (o : Unary) (a whole : Lowered) (ds rs : List ℕ)
      → Gives a ds (value t inputs)
      → ds ≡ shape_of t inputs → unary_dims widest o ds ≡ Ok rs
      → Gives whole rs (unary_value o ds (meaning_at a ds))
      → Gives whole rs (value (unary o t) inputs)
  gives-unary t o a whole ds rs operand shape dims gives =
      gives-other whole rs (unary_value o ds (meaning_at a ds)) (value (unary o t) inputs) gives
      (agree-term t o a ds rs operand shape dims)

  -- and on two
  pub agree-terms : (t u : Term) (o : Binary) (a b : Lowered) (ds es rs : List ℕ)
      → Gives a ds (value t inputs) → Gives b es (value u inputs)
      → ds ≡ shape_of t inputs → es ≡ shape_of u inputs → binary_dims widest o ds es ≡ Ok rs
      → Agree rs (binary_value o ds es (meaning_at a ds) (meaning_at b es))
      (value (binary o t u) inputs)
  agree-terms t u o a b ds es rs first second shape_first shape_second dims index is_index =
      agree-binary o ds es rs (meaning_at a ds) (value t inputs) (meaning_at b es) (value u inputs)
      dims (λ js. gives-index a ds (value t inputs) js first)
      (λ js. gives-index b es (value u inputs) js second) index is_index
      ∙ ap (λ d. binary_value o d es (value t inputs) (value u inputs) index) shape_first
      ∙ ap (λ e. binary_value o (shape_of t inputs) e (value t inputs) (value u inputs) index)
      shape_second

  pub gives-binary : (t u : Term) (o : Binary) (a b whole : Lowered) (ds es rs : List ℕ)
      → Gives a ds (value t inputs) → Gives b es (value u inputs)
      → ds ≡ shape_of t inputs → es ≡ shape_of u inputs → binary_dims widest o ds es ≡ Ok rs
      → Gives whole rs (binary_value o ds es (meaning_at a ds) (meaning_at b es))
      → Gives whole rs (value (binary o t u) inputs)
  gives-binary t u o a b whole ds es rs first second shape_first shape_second dims gives =
      gives-other whole rs (binary_value o ds es (meaning_at a ds) (meaning_at b es))
      (value (binary o t u) inputs) gives
      (agree-terms t u o a b ds es rs first second shape_first shape_second dims)

-- values of the same function
pub values-other : (count : ℕ) (at : ℕ → ℤ) (ds : List ℕ) (f g : List ℕ → ℤ)
    → HasValues count at ds f → Agree ds f g → HasValues count at ds g
values-other count at ds f g values same = record {
  whole = values.whole;
  each = λ p below. values.each p below ∙ same (index_of ds p) (IsIndexOf-index_of ds p below);
}

-- the value at an index list
pub values-agree : (count : ℕ) (at : ℕ → ℤ) (ds : List ℕ) (f : List ℕ → ℤ)
    → HasValues count at ds f → Agree ds (λ js. at (place ds js)) f
values-agree count at ds f values js is_index =
    values.each (place ds js) (place-below-size_of ds js is_index)
    ∙ ap f (index_of-place ds js is_index)

pub values-own : (lowered : Lowered) (ds : List ℕ) → count_of lowered ≡ size_of ds
    → HasValues (count_of lowered) (meaning lowered) ds (meaning_at lowered ds)
values-own lowered ds count = record {
  whole = count;
  each = λ p below. ap (meaning lowered) (sym (place-index_of ds p below));
}

-- its values at index lists are those that it gives
pub values-given : (count : ℕ) (at : ℕ → ℤ) (lowered : Lowered) (ds : List ℕ) (f : List ℕ → ℤ)
    → HasValues count at ds (meaning_at lowered ds) → Gives lowered ds f → HasValues count at ds f
values-given count at lowered ds f values gives = record {
  whole = values.whole;
  each = λ p below.
      values.each p below ∙ ap (meaning lowered) (place-index_of ds p below) ∙ gives.means p below;
}

pub values-list : (lowered : Lowered) (items : List ℤ) (ds : List ℕ) → IsListOf lowered items
    → count_of lowered ≡ size_of ds
    → HasValues (length items) (value_in items) ds (meaning_at lowered ds)
values-list lowered items ds is count = record {
  whole = sym is.count ∙ count;
  each = λ p below. sym (is.each p) ∙ ap (meaning lowered) (sym (place-index_of ds p below));
}

pub values-worked : (at : ℕ → ℤ) (items : List ℤ) (count n : ℕ) (ds : List ℕ) (f : List ℕ → ℤ)
    → HasValues count at ds f
    → items ≡ map at (range_with_len 0 n) → n ≡ size_of ds
    → HasValues (length items) (value_in items) ds f
values-worked at items count n ds f values same full = record {
  whole = ap length same ∙ length-map-range_with_len at 0 n ∙ full;
  each = λ p below. ap (λ l. value_in l p) same
      ∙ get_or-map-range_with_len at 0 n p p (pos 0) (omega arith) (omega arith) ∙ values.each p below;
}

-- a list of which all was written
pub take-written : (n : ℕ) (xs ys : List ℤ) → n ≡ length xs → take n (xs ++ ys) ≡ xs
take-written n xs ys whole = rw whole (take-append_seam xs ys)

-- computed values, lowered
pub gives-worked : (whole : Lowered) (items : List ℤ) (ds : List ℕ) (f : List ℕ → ℤ)
    → IsListOf whole items → IsSound whole
    → HasValues (length items) (value_in items) ds f → Gives whole ds f
gives-worked whole items ds f is sound values = record {
  sound = sound;
  count = is.count ∙ values.whole;
  means = λ p below. is.each p ∙ values.each p below;
}

-- a reduction of them, and a contraction
pub values-reduced : (r : Reducer) (axes ds rs : List ℕ) (n count : ℕ) (of at : ℕ
    → ℤ) (f : List ℕ → ℤ) → reduced_dims axes ds ≡ Ok rs
    → HasValues n of ds f → count ≡ size_of (other_dims axes ds)
    → ((p : ℕ) → p < size_of (other_dims axes ds)
    → at p ≡ reduced r axes ds (λ js. of (place ds js)) (index_of (other_dims axes ds) p))
    → HasValues count at rs (reduced r axes ds f)
values-reduced r axes ds rs n count of at f dims values whole at_each =
    subst (λ cs. HasValues count at cs (reduced r axes ds f)) (reduced-shape axes ds rs dims)
    (values-other count at (other_dims axes ds) (reduced r axes ds
    (λ js. of (place ds js))) (reduced r axes ds f)
    (record { whole = whole; each = at_each })
    (reduced-other r axes ds (λ js. of (place ds js)) f (values-agree n of ds f values)))

pub values-contracted : (pairs : List (ℕ × ℕ)) (ds es rs : List ℕ) (n m count : ℕ) (of on at : ℕ
    → ℤ) (f g : List ℕ → ℤ) → contracted_dims widest pairs ds es ≡ Ok rs
    → HasValues n of ds f → HasValues m on es g → count ≡ size_of (outer_dims pairs ds es)
    → ((p : ℕ) → p < count → at p ≡ contracted pairs ds es (λ js. of (place ds js))
    (λ js. on (place es js)) (index_of (outer_dims pairs ds es) p))
    → HasValues count at rs (contracted pairs ds es f g)
values-contracted pairs ds es rs n m count of on at f g dims first second whole at_each =
    subst (λ cs. HasValues count at cs (contracted pairs ds es f g))
    (contracted-shape pairs ds es rs dims)
    (values-other count at (outer_dims pairs ds es) (contracted pairs ds es
    (λ js. of (place ds js)) (λ js. on (place es js))) (contracted pairs ds es f g)
    (record { whole = whole; each = λ p below. at_each p (omega arith) })
    (contracted-other pairs ds es (λ js. of (place ds js)) f
    (λ js. on (place es js)) g (contraction-known pairs ds es (rw dims refl))
    (values-agree n of ds f first) (values-agree m on es g second)))
