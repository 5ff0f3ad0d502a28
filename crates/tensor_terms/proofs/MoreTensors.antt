-- What a term says over some tensors, it says over more of them, and over others with their dims.
use Rattle.std.proofs.Common.{◌≡◌, ℕ, zero, suc, ◌+◌, List, [], ◌∷◌, ◌++◌, length, map, ◌&&◌, Ok}
use Rattle.std.proofs.Common.{true, ap, refl, arith, ◌∙◌, ◌<◌, set, sym, subst, inl, inr}
use Rattle.std.proofs.lemmas.Bool.{and_parts, and_from, ltb-true, lt-ltb, cases_eq}
use Rattle.std.proofs.lemmas.List.{get_or_append_left, length-set, get_or-set_same}
use Rattle.std.proofs.lemmas.List.{get_or-set_other}
use Rattle.tensor_shape.specs.declared.bounds.Bounds.{Bounds}
use Rattle.tensor_terms.specs.Contents.{Contents, input_of, nothing, AreWithin}
use Rattle.tensor_terms.specs.Result.{dims_of, unary_dims, binary_dims, ternary_dims}
use Rattle.tensor_terms.specs.Shaped.{with_one, with_two, with_three}
use Rattle.tensor_terms.specs.Term.{Term, input, unary, binary, ternary, Binary, Ternary}
use Rattle.tensor_terms.specs.Term.{has_inputs}
use Rattle.tensor_shape.specs.Legal.{IsWithin}
use Rattle.tensor_shape.proofs.Sizes.{one-le-bulk_of}
use Rattle.tensor_terms.specs.Freed.{freed}

-- a term has its inputs among more
pub has_inputs-more : (t : Term) (count more : ℕ) → has_inputs t count ≡ true
    → has_inputs t (count + more) ≡ true
has_inputs-more (input n) count more has =
    lt-ltb n (count + more) (omega (arith, ltb-true n count has))
has_inputs-more (unary o a) count more has = has_inputs-more a count more has
has_inputs-more (binary o a b) count more has =
    let each = and_parts (has_inputs a count) (has_inputs b count) has in
    and_from (has_inputs a (count + more)) (has_inputs b (count + more))
    (has_inputs-more a count more each.0) (has_inputs-more b count more each.1)
has_inputs-more (ternary o a b c) count more has =
    let n : ℕ = count + more in
    let first = and_parts (has_inputs a count) (has_inputs b count && has_inputs c count) has in
    let others = and_parts (has_inputs b count) (has_inputs c count) first.1 in
    and_from (has_inputs a n) (has_inputs b n && has_inputs c n)
    (has_inputs-more a count more first.0)
    (and_from (has_inputs b n) (has_inputs c n) (has_inputs-more b count more others.0)
    (has_inputs-more c count more others.1))

module _ (bounds : Bounds) where
  -- its dims are the same where those of its operands are
  dims-two : (o : Binary) (a b : Term) (ts us : List Contents)
      → dims_of bounds a ts ≡ dims_of bounds a us → dims_of bounds b ts ≡ dims_of bounds b us
      → dims_of bounds (binary o a b) ts ≡ dims_of bounds (binary o a b) us
  dims-two o a b ts us first second =
      ap (λ d. with_two (binary_dims bounds o) d (dims_of bounds b ts)) first
      ∙ ap (with_two (binary_dims bounds o) (dims_of bounds a us)) second

  dims-three : (o : Ternary) (a b c : Term) (ts us : List Contents)
      → dims_of bounds a ts ≡ dims_of bounds a us → dims_of bounds b ts ≡ dims_of bounds b us
      → dims_of bounds c ts ≡ dims_of bounds c us
      → dims_of bounds (ternary o a b c) ts ≡ dims_of bounds (ternary o a b c) us
  dims-three o a b c ts us first second third =
      ap (λ d. with_three (ternary_dims o) d (dims_of bounds b ts) (dims_of bounds c ts)) first
      ∙ ap (λ e. with_three (ternary_dims o) (dims_of bounds a us) e (dims_of bounds c ts)) second
      ∙ ap (with_three (ternary_dims o) (dims_of bounds a us) (dims_of bounds b us)) third

  -- its dims over its inputs and more
  pub dims_of-more : (t : Term) (tensors more : List Contents)
      → has_inputs t (length tensors) ≡ true
      → dims_of bounds t (tensors ++ more) ≡ dims_of bounds t tensors
  dims_of-more (input n) tensors more has =
      ap (λ x. Ok x.dims)
      (get_or_append_left tensors more nothing n (ltb-true n (length tensors) has))
  dims_of-more (unary o a) tensors more has =
      ap (with_one (unary_dims bounds o)) (dims_of-more a tensors more has)
  dims_of-more (binary o a b) tensors more has =
      let each = and_parts (has_inputs a (length tensors)) (has_inputs b (length tensors)) has in
      dims-two o a b (tensors ++ more) tensors (dims_of-more a tensors more each.0)
      (dims_of-more b tensors more each.1)
  dims_of-more (ternary o a b c) tensors more has =
      let n : ℕ = length tensors in
      let first = and_parts (has_inputs a n) (has_inputs b n && has_inputs c n) has in
      let others = and_parts (has_inputs b n) (has_inputs c n) first.1 in
      dims-three o a b c (tensors ++ more) tensors (dims_of-more a tensors more first.0)
      (dims_of-more b tensors more others.0) (dims_of-more c tensors more others.1)

-- its dims over tensors of the same dims
module _ (ts us : List Contents) (same : (n : ℕ) → (input_of ts n).dims ≡ (input_of us n).dims)
    (bounds : Bounds) where
  pub dims_of-same : (t : Term) → dims_of bounds t ts ≡ dims_of bounds t us
  dims_of-same (input n) = ap Ok (same n)
  dims_of-same (unary o a) = ap (with_one (unary_dims bounds o)) (dims_of-same a)
  dims_of-same (binary o a b) =
      dims-two bounds o a b ts us (dims_of-same a) (dims_of-same b)
  dims_of-same (ternary o a b c) =
      dims-three bounds o a b c ts us (dims_of-same a) (dims_of-same b) (dims_of-same c)

-- tensors have the same dims where the lists of their dims are equal
pub same_dims-all : (ts us : List Contents) → map (λ x. x.dims) ts ≡ map (λ x. x.dims) us
    → (n : ℕ) → (input_of ts n).dims ≡ (input_of us n).dims
same_dims-all [] [] is n = refl
same_dims-all [] (u ∷ us) is n = absurd (cc)
same_dims-all (t ∷ ts) [] is n = absurd (cc)
same_dims-all (t ∷ ts) (u ∷ us) is zero = cc
same_dims-all (t ∷ ts) (u ∷ us) is (suc n) = same_dims-all ts us (cc) n

pub dims_of-same_dims : (bounds : Bounds) (t : Term) (ts us : List Contents)
    → map (λ x. x.dims) ts ≡ map (λ x. x.dims) us → dims_of bounds t ts ≡ dims_of bounds t us
dims_of-same_dims bounds t ts us is = dims_of-same ts us (same_dims-all ts us is) bounds t

-- tensors within bounds
module _ (bounds : Bounds) (ts : List Contents) where
  -- where there is a tensor there may be one of a single value
  IsWithin-freed : (n : ℕ) → n < length ts → AreWithin bounds ts → IsWithin bounds freed.dims
  IsWithin-freed n below within =
      let own = within n below in
      record {
        rank = omega arith;
        elements = omega (arith, own.elements, one-le-bulk_of (input_of ts n).dims);
      }

  -- so they stay within where one is freed
  pub AreWithin-freed : (k : ℕ) → k < length ts → AreWithin bounds ts
      → AreWithin bounds (set ts k freed)
  AreWithin-freed k there within n below =
      let inside : n < length ts = omega (arith, length-set ts k freed) in
      elim (cases_eq n k) [
        | inl same ↦
            let here : input_of (set ts k freed) n ≡ freed =
            ap (input_of (set ts k freed)) same ∙ get_or-set_same ts k freed nothing there in
            subst (λ x. IsWithin bounds x.dims) (sym here) (IsWithin-freed k there within)
        | inr other ↦
            subst (λ x. IsWithin bounds x.dims) (sym (get_or-set_other ts k n freed nothing other))
            (within n inside)
      ]
