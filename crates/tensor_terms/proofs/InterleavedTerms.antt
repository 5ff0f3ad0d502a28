-- Concatenations and pads of terms: operands that agree, and values at places.
use Rattle.std.proofs.Common.{◌≡◌, ℕ, zero, suc, ◌+◌, ◌-◌, ◌*◌, ◌<◌, ◌≤◌, ℤ, pos, List, [], ◌∷◌, length, take, drop, get_or, set, remove}
use Rattle.std.proofs.Common.{true, false, nat_lt, IsOk, refl, ap, sym, subst, ◌∙◌, inl, inr, arith, add-one}
use Rattle.std.proofs.lemmas.Bool.{cases_Bool, ltb-true, ltb-false}
use Rattle.std.specs.Result.{result_unwrap_or}
use Rattle.tensor_shape.specs.Index.{size_of, IsIndexOf, place, index_of}
use Rattle.tensor_shape.specs.Legal.{widest}
use Rattle.tensor_shape.proofs.Places.{IsIndexOf-index_of, index_of-place}
use Rattle.tensor_terms.specs.Concatenation.{joined_dims, concatenated_dims, concatenated}
use Rattle.tensor_terms.specs.Contents.{Contents}
use Rattle.tensor_terms.specs.Padding.{padded_dims, pad_dims, is_inside, moved_back, padded}
use Rattle.tensor_terms.specs.Result.{dims_of, shape_of}
use Rattle.tensor_values.specs.Interleaving.{is_of_first, firsts_before, seconds_before, interleaved}
use Rattle.tensor_terms.specs.Term.{Term, unary, binary, pad, concat}
use Rattle.tensor_terms.specs.Value.{value, value_of_place}
use Rattle.tensor_values.proofs.InTurns.{first-below, second-below, before-turns}
use Rattle.tensor_terms.proofs.Pads.{pad-known, IsIndexOf-moved_back}
use Rattle.tensor_terms.proofs.SameValues.{Agree}
use Rattle.tensor_terms.proofs.Shapes.{with_one-known, with_two-known}
use Rattle.tensor_terms.proofs.Interleavings.{IsConcatenation, concatenation-known, concatenated-interleaved, widths-some, size_of-parts, drop-others, size_of-concatenation}

-- lists with one number set
pub set-itself : (k : ℕ) (ds : List ℕ) → set ds k (get_or ds k 0) ≡ ds
set-itself k [] = refl
set-itself zero (d ∷ ds) = refl
set-itself (suc k) (d ∷ ds) = ap (λ l. d ∷ l) (set-itself k ds)

pub IsIndexOf-set : (k n m : ℕ) (ds is : List ℕ) → k < length ds → IsIndexOf (set ds k n) is → get_or is k 0 < m → IsIndexOf (set ds k m) is
IsIndexOf-set k n m [] is within index below = absurd (omega arith)
IsIndexOf-set zero n m (d ∷ ds) [] within index below = absurd index
IsIndexOf-set (suc k) n m (d ∷ ds) [] within index below = absurd index
IsIndexOf-set zero n m (d ∷ ds) (i ∷ is) within index below = (below, index.1)
IsIndexOf-set (suc k) n m (d ∷ ds) (i ∷ is) within index below = (index.0, IsIndexOf-set k n m ds is (omega arith) index.1 below)

-- an index list past the first's part is one of the second, less that part
IsIndexOf-past : (k : ℕ) (ds es is : List ℕ) → length ds ≡ length es → k < length ds → remove ds k ≡ remove es k
    → IsIndexOf (joined_dims k ds es) is → get_or ds k 0 ≤ get_or is k 0 → IsIndexOf es (set is k (get_or is k 0 - get_or ds k 0))
IsIndexOf-past k [] es is same within others index past = absurd (omega arith)
IsIndexOf-past k (d ∷ ds) [] is same within others index past = absurd (omega arith)
IsIndexOf-past zero (d ∷ ds) (e ∷ es) [] same within others index past = absurd index
IsIndexOf-past (suc k) (d ∷ ds) (e ∷ es) [] same within others index past = absurd index
IsIndexOf-past zero (d ∷ ds) (e ∷ es) (i ∷ is) same within others index past =
    (omega (arith, index.0), subst (λ l. IsIndexOf l is) others index.1)
IsIndexOf-past (suc k) (d ∷ ds) (e ∷ es) (i ∷ is) same within others index past =
    let first : d ≡ e = (cc) in
    (subst (λ n. i < n) first index.0, IsIndexOf-past k ds es is (omega arith) (omega arith) (cc) index.1 past)

-- concatenations of values that agree
pub concatenated-other : (k : ℕ) (ds es : List ℕ) (f g h l : List ℕ → ℤ) → IsConcatenation k ds es → Agree ds f g → Agree es h l
    → Agree (joined_dims k ds es) (concatenated k ds f h) (concatenated k ds g l)
concatenated-other k ds es f g h l known first second is index =
    elim (cases_Bool (nat_lt (get_or is k 0) (get_or ds k 0))) [
      | inl inside ↦
          let below : get_or is k 0 < get_or ds k 0 = ltb-true _ _ inside in
          let here : IsIndexOf ds is =
          subst (λ l. IsIndexOf l is) (set-itself k ds) (IsIndexOf-set k (get_or ds k 0 + get_or es k 0) (get_or ds k 0) ds is known.in_rank index below) in
          rw inside (first is here)
      | inr past ↦
          let over : get_or ds k 0 ≤ get_or is k 0 = ltb-false _ _ past in
          rw past
          (second (set is k (get_or is k 0 - get_or ds k 0)) (IsIndexOf-past k ds es is known.same known.in_rank known.others index over))
    ]

module _ (inputs : List Contents) where
  -- the value of a pad at a place
  module _ (ps : List (ℕ × ℕ)) (a : Term) (has : IsOk (dims_of widest (unary (pad ps) a) inputs)) where
    pub pad-dims : (IsOk (pad_dims widest ps (shape_of a inputs))) × (shape_of (unary (pad ps) a) inputs ≡ padded_dims ps (shape_of a inputs))
    pad-dims =
        let known = with_one-known (pad_dims widest ps) (dims_of widest a inputs) has in
        let own : IsOk (pad_dims widest ps (shape_of a inputs)) = rw known.1 at has in
        let pad_is = pad-known ps (shape_of a inputs) own in
        (own, ap (λ r. result_unwrap_or r []) (known.1 ∙ pad_is.dims))

    module _ (p : ℕ) (below : p < size_of (shape_of (unary (pad ps) a) inputs)) where
      pub value_of_place-pad : (read : ℕ) → is_inside ps (shape_of a inputs) (index_of (padded_dims ps (shape_of a inputs)) p) ≡ true
          → read ≡ place (shape_of a inputs) (moved_back ps (index_of (padded_dims ps (shape_of a inputs)) p))
          → value_of_place (unary (pad ps) a) inputs p ≡ value_of_place a inputs read
      value_of_place-pad read inside is =
          let ds : List ℕ = shape_of a inputs in
          let js : List ℕ = index_of (padded_dims ps ds) p in
          let long = (pad-known ps ds pad-dims.0).long in
          let index : IsIndexOf (padded_dims ps ds) js = IsIndexOf-index_of (padded_dims ps ds) p (omega (arith, ap size_of pad-dims.1)) in
          let back : index_of ds (place ds (moved_back ps js)) ≡ moved_back ps js =
          index_of-place ds (moved_back ps js) (IsIndexOf-moved_back ps ds js long index inside) in
          ap (λ l. padded ps ds (value a inputs) (index_of l p)) pad-dims.1
          ∙ rw inside (ap (value a inputs) (sym back ∙ ap (index_of ds) (sym is)))

      pub value_of_place-around : is_inside ps (shape_of a inputs) (index_of (padded_dims ps (shape_of a inputs)) p) ≡ false
          → value_of_place (unary (pad ps) a) inputs p ≡ pos 0
      value_of_place-around outside =
          ap (λ l. padded ps (shape_of a inputs) (value a inputs) (index_of l p)) pad-dims.1 ∙ rw outside refl

  -- the value of a concatenation at a place
  module _ (axis : ℕ) (a b : Term) (has : IsOk (dims_of widest (binary (concat axis) a b) inputs)) where
    pub concat-dims : (IsOk (concatenated_dims widest axis (shape_of a inputs) (shape_of b inputs)))
        × (shape_of (binary (concat axis) a b) inputs ≡ joined_dims axis (shape_of a inputs) (shape_of b inputs))
    concat-dims =
        let known = with_two-known (concatenated_dims widest axis) (dims_of widest a inputs) (dims_of widest b inputs) has in
        let own : IsOk (concatenated_dims widest axis (shape_of a inputs) (shape_of b inputs)) = rw known.2 at has in
        let is = concatenation-known axis (shape_of a inputs) (shape_of b inputs) own in
        (own, ap (λ r. result_unwrap_or r []) (known.2 ∙ is.dims))

    module _ (v w p : ℕ) (first : v ≡ size_of (take (axis + 1) (shape_of a inputs))) (second : w ≡ size_of (take (axis + 1) (shape_of b inputs)))
        (below : p < size_of (shape_of (binary (concat axis) a b) inputs)) where
      pub value_of_place-concat : value_of_place (binary (concat axis) a b) inputs p
          ≡ interleaved v w (value_of_place a inputs) (value_of_place b inputs) p
      value_of_place-concat =
          let ds : List ℕ = shape_of a inputs in
          let es : List ℕ = shape_of b inputs in
          let rs : List ℕ = joined_dims axis ds es in
          let known = concatenation-known axis ds es concat-dims.0 in
          let inside : p < size_of rs = omega (arith, ap size_of concat-dims.1) in
          ap (λ l. concatenated axis ds (value a inputs) (value b inputs) (index_of l p)) concat-dims.1
          ∙ concatenated-other axis ds es (value a inputs) (λ is. value_of_place a inputs (place ds is)) (value b inputs)
          (λ is. value_of_place b inputs (place es is)) known
          (λ js index. ap (value a inputs) (sym (index_of-place ds js index)))
          (λ js index. ap (value b inputs) (sym (index_of-place es js index)))
          (index_of rs p) (IsIndexOf-index_of rs p inside)
          ∙ concatenated-interleaved axis ds es (value_of_place a inputs) (value_of_place b inputs) p known.same known.in_rank known.others inside
          ∙ ap (λ n. interleaved n (size_of (take (suc axis) es)) (value_of_place a inputs) (value_of_place b inputs) p)
          (ap (λ n. size_of (take n ds)) (sym (add-one axis)) ∙ sym first)
          ∙ ap (λ n. interleaved v n (value_of_place a inputs) (value_of_place b inputs) p)
          (ap (λ n. size_of (take n es)) (sym (add-one axis)) ∙ sym second)

      -- which is below the operand's size
      pub places-concat : (is_of_first v w p ≡ true → firsts_before v w p < size_of (shape_of a inputs))
          × (is_of_first v w p ≡ false → seconds_before v w p < size_of (shape_of b inputs))
      places-concat =
          let ds : List ℕ = shape_of a inputs in
          let es : List ℕ = shape_of b inputs in
          let known = concatenation-known axis ds es concat-dims.0 in
          let inside : p < size_of (joined_dims axis ds es) = omega (arith, ap size_of concat-dims.1) in
          let t : ℕ = size_of (drop (suc axis) ds) in
          let v_is : v ≡ size_of (take (suc axis) ds) = first ∙ ap (λ n. size_of (take n ds)) (add-one axis) in
          let w_is : w ≡ size_of (take (suc axis) es) = second ∙ ap (λ n. size_of (take n es)) (add-one axis) in
          let some : 0 < v + w = omega (arith, v_is, w_is, widths-some axis ds es p known.same known.in_rank known.others inside) in
          let tail : size_of (drop (suc axis) es) ≡ t = ap size_of (sym (drop-others axis ds es known.same known.in_rank known.others)) in
          let left : size_of ds ≡ t * v = sym (size_of-parts (suc axis) ds) ∙ ap (λ n. n * t) (sym v_is) ∙ omega arith in
          let right : size_of es ≡ t * w = sym (size_of-parts (suc axis) es) ∙ ap (λ n. n * size_of (drop (suc axis) es)) (sym w_is)
          ∙ ap (λ n. w * n) tail ∙ omega arith in
          let whole : size_of (joined_dims axis ds es) ≡ t * (v + w) =
          let both : t * (v + w) ≡ t * v + t * w = grind arith in
          omega (arith, both, left, right, size_of-concatenation axis ds es known.same known.in_rank known.others) in
          let before = before-turns v w t some in
          let within : p < t * (v + w) = omega (arith, whole) in (
            (λ one. omega (arith, left, before.0, first-below v w some p (t * (v + w)) within one)),
            (λ two. omega (arith, right, before.1, second-below v w some p (t * (v + w)) within two)),
          )
