-- Index lists merged from two parts: each index list has its two parts, and no other.
use Rattle.std.proofs.Common.{◌≡◌, ℕ, ◌<◌, List, [], ◌∷◌, ◌++◌, length, get_or, set, true}
use Rattle.std.proofs.Common.{false, nat_eq}
use Rattle.std.proofs.Common.{refl, ap, sym, ◌∙◌, arith, inl, inr, subst}
use Rattle.std.proofs.lemmas.Bool.{cases_eq, or_parts, eqb-false}
use Rattle.std.proofs.lemmas.List.{length-map, map-append, get_or-set_other, get_or-set_same}
use Rattle.std.proofs.lemmas.List.{ext_get_or, length-append}
use Rattle.tensor_shape.specs.Index.{IsIndexOf}
use Rattle.tensor_shape.proofs.Places.{length-IsIndexOf}
use Rattle.tensor_terms.specs.Movement.{scattered, shuffled_dims, is_among}
use Rattle.tensor_terms.specs.Reduction.{are_axes}
use Rattle.tensor_terms.specs.Merged.{others, dims_at, other_dims, merged}
use Rattle.tensor_terms.proofs.Moved.{IsIndexOf-by_each, scattered-below, length-scattered}
use Rattle.tensor_terms.proofs.Moved.{get_or-IsIndexOf}
use Rattle.tensor_terms.proofs.Moved.{zeros}
use Rattle.tensor_terms.proofs.OtherAxes.{are_axes-first, are_axes-all, is_among-all}
use Rattle.tensor_terms.proofs.Permutations.{is_among-rest}

pub length-zeros : (ds : List ℕ) → length (zeros ds) ≡ length ds
length-zeros ds = length-map ds (λ d. 0)

-- a number that is set at none of some axes
pub shuffled_dims-set : (xs ss : List ℕ) (s i : ℕ) → is_among s ss ≡ false
    → shuffled_dims (set xs s i) ss ≡ shuffled_dims xs ss
shuffled_dims-set xs [] s i h = refl
shuffled_dims-set xs (t ∷ ss) s i h =
    let parts = or_parts (nat_eq s t) (is_among s ss) h in
    let here : get_or (set xs s i) t 0 ≡ get_or xs t 0 =
    get_or-set_other xs s t i 0 (λ same. eqb-false s t parts.0 (sym same)) in
    let rest : shuffled_dims (set xs s i) ss ≡ shuffled_dims xs ss =
    shuffled_dims-set xs ss s i parts.1 in
    (cc)

-- the numbers at the axes where they were put
pub shuffled_dims-scattered : (order is xs : List ℕ) → are_axes (length xs) order ≡ true
    → length is ≡ length order
    → shuffled_dims (scattered order is xs) order ≡ is
shuffled_dims-scattered [] [] xs once long = refl
shuffled_dims-scattered [] (i ∷ is) xs once long = absurd (omega arith)
shuffled_dims-scattered (s ∷ ss) [] xs once long = absurd (omega arith)
shuffled_dims-scattered (s ∷ ss) (i ∷ is) xs once long =
    let axis = are_axes-first (length xs) s ss once in
    let js : List ℕ = scattered ss is xs in
    let within : s < length js = omega (arith, axis.below, length-scattered ss is xs) in
    let here : get_or (set js s i) s 0 ≡ i = get_or-set_same js s i 0 within in
    let later : shuffled_dims (set js s i) ss ≡ shuffled_dims js ss =
    shuffled_dims-set js ss s i axis.alone in
    let rest : shuffled_dims js ss ≡ is =
    shuffled_dims-scattered ss is xs axis.rest (omega arith) in
    (cc)

-- each number of an index list, put at its own axis
get_or-scattered : (order ks xs : List ℕ) (a : ℕ) → length xs ≡ length ks → a < length ks
    → is_among a order ≡ true
    → get_or (scattered order (shuffled_dims ks order) xs) a 0 ≡ get_or ks a 0
get_or-scattered [] ks xs a long within among = (cc)
get_or-scattered (s ∷ ss) ks xs a long within among =
    let js : List ℕ = scattered ss (shuffled_dims ks ss) xs in
    let full = length-scattered ss (shuffled_dims ks ss) xs in
    elim (cases_eq a s) [
      | inl same ↦ rw same (get_or-set_same js s (get_or ks s 0) 0 (omega arith))
      | inr other ↦ get_or-set_other js s a (get_or ks s 0) 0 other
          ∙ get_or-scattered ss ks xs a long within (is_among-rest a s ss other among)
    ]

-- an index list of dims after dims
IsIndexOf-append : (ds es js is : List ℕ) → IsIndexOf ds js → IsIndexOf es is
    → IsIndexOf (ds ++ es) (js ++ is)
IsIndexOf-append [] es [] is first second = second
IsIndexOf-append [] es (j ∷ js) is first second = absurd first
IsIndexOf-append (d ∷ ds) es [] is first second = absurd first
IsIndexOf-append (d ∷ ds) es (j ∷ js) is first second =
    (first.0, IsIndexOf-append ds es js is first.1 second)

-- the numbers of an index list at some axes are an index list of their dims
pub IsIndexOf-dims_at : (rank : ℕ) (axes ds ks : List ℕ) → rank ≡ length ds
    → are_axes rank axes ≡ true → IsIndexOf ds ks
    → IsIndexOf (dims_at axes ds) (dims_at axes ks)
IsIndexOf-dims_at rank [] ds ks same once index = tt
IsIndexOf-dims_at rank (x ∷ xs) ds ks same once index =
    let axis = are_axes-first rank x xs once in (
      get_or-IsIndexOf ds ks x index (omega (arith, axis.below)),
      IsIndexOf-dims_at rank xs ds ks
          same axis.rest index,
    )

-- the numbers at axes after axes
dims_at-append : (xs ys ks : List ℕ) → dims_at (xs ++ ys) ks ≡ dims_at xs ks ++ dims_at ys ks
dims_at-append xs ys ks = map-append (λ s. get_or ks s 0) xs ys

pub length-dims_at : (axes ds : List ℕ) → length (dims_at axes ds) ≡ length axes
length-dims_at axes ds = length-map axes (λ s. get_or ds s 0)

-- both parts of equal lists
pub record SameParts (xs js ys is : List ℕ) : Type 0 where
  pub first : xs ≡ js
  pub second : ys ≡ is

same_parts : (xs js ys is : List ℕ) → length xs ≡ length js → xs ++ ys ≡ js ++ is
    → SameParts xs js ys is
same_parts [] [] ys is long same = record { first = refl; second = same }
same_parts [] (j ∷ js) ys is long same = absurd (omega arith)
same_parts (x ∷ xs) [] ys is long same = absurd (omega arith)
same_parts (x ∷ xs) (j ∷ js) ys is long same =
    let head : x ≡ j = cc in
    let tail : xs ++ ys ≡ js ++ is = cc in
    let rest = same_parts xs js ys is (omega arith) tail in
    let first : xs ≡ js = rest.first in
    record { first = cc; second = rest.second }

module _ (axes ds : List ℕ) (legal : are_axes (length ds) axes ≡ true) where
  -- an index list is merged from its own two parts
  pub merged-parts : (ks : List ℕ) → IsIndexOf ds ks
      → merged axes ds (dims_at axes ks) (dims_at (others axes (length ds)) ks) ≡ ks
  merged-parts ks index =
      let all : List ℕ = axes ++ others axes (length ds) in
      let long = length-IsIndexOf ds ks index in
      let zero_long : length (zeros ds) ≡ length ks = length-zeros ds ∙ sym long in
      let same : length (scattered all (dims_at all ks) (zeros ds)) ≡ length ks =
      length-scattered all (dims_at all ks) (zeros ds) ∙ zero_long in
      ap (λ l. scattered all l (zeros ds)) (sym (dims_at-append axes (others axes (length ds)) ks))
      ∙ ext_get_or 0 (scattered all (dims_at all ks) (zeros ds)) ks same
      (λ a below. get_or-scattered all ks (zeros ds) a zero_long (omega arith)
      (is_among-all axes (length ds) a (omega arith)))

  module _ (js is : List ℕ) (first : IsIndexOf (dims_at axes ds) js)
      (second : IsIndexOf (other_dims axes ds) is) where
    length-first : length js ≡ length axes
    length-first = length-IsIndexOf (dims_at axes ds) js first ∙ length-dims_at axes ds

    length-second : length is ≡ length (others axes (length ds))
    length-second = length-IsIndexOf (other_dims axes ds) is second
        ∙ length-dims_at (others axes (length ds)) ds

    -- a merged index list is one of the dims
    pub IsIndexOf-merged : IsIndexOf ds (merged axes ds js is)
    IsIndexOf-merged =
        let whole : IsIndexOf (dims_at (axes ++ others axes (length ds)) ds) (js ++ is) =
        subst (λ es. IsIndexOf es (js ++ is))
        (sym (dims_at-append axes (others axes (length ds)) ds))
        (IsIndexOf-append (dims_at axes ds) (other_dims axes ds) js is first second) in
        IsIndexOf-by_each ds (merged axes ds js is)
        (length-scattered (axes ++ others axes (length ds)) (js ++ is) (zeros ds) ∙ length-zeros ds)
        (λ a below. scattered-below ds (axes ++ others axes (length ds)) (js ++ is)
        (zeros ds) a below (length-zeros ds) whole
        (is_among-all axes (length ds) a below))

    -- no other parts give it
    pub parts-merged : SameParts (dims_at axes (merged axes ds js is)) js
        (dims_at (others axes (length ds)) (merged axes ds js is)) is
    parts-merged =
        let all : List ℕ = axes ++ others axes (length ds) in
        let made : List ℕ = merged axes ds js is in
        let once : are_axes (length (zeros ds)) all ≡ true =
        rw (length-zeros ds) (are_axes-all axes (length ds) legal) in
        let long : length (js ++ is) ≡ length all =
        length-append js is ∙ (omega (
          arith,
          length-first,
          length-second,
          length-append axes
              (others axes (length ds)),
        )) in
        same_parts (dims_at axes made) js (dims_at (others axes (length ds)) made) is
        (length-dims_at axes made ∙ sym length-first)
        (sym (dims_at-append axes (others axes (length ds)) made)
        ∙ shuffled_dims-scattered all (js ++ is) (zeros ds) once long)
