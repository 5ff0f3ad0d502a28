-- Kernels sliding over dims: the sizes of results, and the index lists under a kernel.
use Rattle.std.proofs.Common.{◌≡◌, ℕ, zero, suc, ◌+◌, ◌-◌, ◌<◌, ◌≤◌, max, List, [], ◌∷◌, length}
use Rattle.std.proofs.Common.{get_or, set, true, false, ◌&&◌, nat_eq, nat_le}
use Rattle.std.proofs.Common.{refl, ◌∙◌, arith, inl, inr}
use Rattle.std.proofs.lemmas.Bool.{and_parts, or_parts, cases_eq, eqb-false, leb-true}
use Rattle.std.proofs.lemmas.List.{length-set, get_or-set_other, get_or-set_same}
use Rattle.std.proofs.Math.Nat.{mul-le-mul_left, mul-le-mul_right}
use Rattle.tensor_shape.specs.Index.{size_of, IsIndexOf}
use Rattle.tensor_shape.specs.Legal.{widest, bulk_of, IsLegal, are_legal}
use Rattle.tensor_terms.specs.Convolution.{window_dims, fit_along, window_index}
use Rattle.tensor_terms.specs.Movement.{is_among}
use Rattle.tensor_terms.specs.Reduction.{are_axes}
use Rattle.tensor_terms.proofs.Legality.{are_legal-below}
use Rattle.tensor_terms.proofs.Moved.{get_or-IsIndexOf}
use Rattle.tensor_terms.proofs.OtherAxes.{are_axes-first}
use Rattle.tensor_terms.proofs.Permutations.{is_among-get_or}

-- the first dimension of a kernel that fits, and the rest of it
pub record FitsFirst (x k : ℕ) (xs ks ds : List ℕ) : Type 0 where
  pub some : 1 ≤ k
  pub within : k ≤ get_or ds x 0
  pub rest : fit_along xs ks ds ≡ true

pub fit_along-first : (x k : ℕ) (xs ks ds : List ℕ) → fit_along (x ∷ xs) (k ∷ ks) ds ≡ true
    → FitsFirst x k xs ks ds
fit_along-first x k xs ks ds h =
    let parts = and_parts (nat_le 1 k && nat_le k (get_or ds x 0)) (fit_along xs ks ds) h in
    let each = and_parts (nat_le 1 k) (nat_le k (get_or ds x 0)) parts.0 in
    record {
      some = leb-true 1 k each.0;
      within = leb-true k (get_or ds x 0) each.1;
      rest = parts.1;
    }

-- each of its dimensions
pub get_or-fit_along : (axes ks ds : List ℕ) (j : ℕ) → fit_along axes ks ds ≡ true
    → length ks ≡ length axes → j < length axes
    → (1 ≤ get_or ks j 0) × (get_or ks j 0 ≤ get_or ds (get_or axes j 0) 0)
get_or-fit_along [] ks ds j h long within = absurd (omega arith)
get_or-fit_along (x ∷ xs) [] ds j h long within = absurd (omega arith)
get_or-fit_along (x ∷ xs) (k ∷ ks) ds zero h long within =
    let first = fit_along-first x k xs ks ds h in
    (first.some, first.within)
get_or-fit_along (x ∷ xs) (k ∷ ks) ds (suc j) h long within =
    get_or-fit_along xs ks ds j (fit_along-first x k xs ks ds h).rest (omega arith) (omega arith)

-- a kernel that fits has a place
pub size_of-fit_along : (axes ks ds : List ℕ) → fit_along axes ks ds ≡ true
    → length ks ≡ length axes → 0 < size_of ks
size_of-fit_along [] [] ds fits long = omega arith
size_of-fit_along [] (k ∷ ks) ds fits long = absurd (omega arith)
size_of-fit_along (x ∷ xs) [] ds fits long = absurd (omega arith)
size_of-fit_along (x ∷ xs) (k ∷ ks) ds fits long =
    let first = fit_along-first x k xs ks ds fits in
    let rest = size_of-fit_along xs ks ds first.rest (omega arith) in
    omega (arith, rest, mul-le-mul_right (size_of ks) first.some)

-- as many numbers
pub length-window_dims : (axes ks ds : List ℕ) → length (window_dims axes ks ds) ≡ length ds
length-window_dims [] ks ds = refl
length-window_dims (x ∷ xs) [] ds = refl
length-window_dims (x ∷ xs) (k ∷ ks) ds =
    length-set (window_dims xs ks ds) x (get_or ds x 0 - k + 1) ∙ length-window_dims xs ks ds

pub length-window_index : (axes js is : List ℕ) → length (window_index axes js is) ≡ length is
length-window_index [] js is = refl
length-window_index (x ∷ xs) [] is = refl
length-window_index (x ∷ xs) (j ∷ js) is =
    length-set (window_index xs js is) x (get_or is x 0 + j) ∙ length-window_index xs js is

-- at an axis that isn't named nothing changes
pub get_or-window_dims : (axes ks ds : List ℕ) (a : ℕ) → is_among a axes ≡ false
    → get_or (window_dims axes ks ds) a 0 ≡ get_or ds a 0
get_or-window_dims [] ks ds a other = refl
get_or-window_dims (x ∷ xs) [] ds a other = refl
get_or-window_dims (x ∷ xs) (k ∷ ks) ds a other =
    let parts = or_parts (nat_eq a x) (is_among a xs) other in
    get_or-set_other (window_dims xs ks ds) x a (get_or ds x 0 - k + 1) 0 (eqb-false a x parts.0)
    ∙ get_or-window_dims xs ks ds a parts.1

pub get_or-window_index : (axes js is : List ℕ) (a : ℕ) → is_among a axes ≡ false
    → get_or (window_index axes js is) a 0 ≡ get_or is a 0
get_or-window_index [] js is a other = refl
get_or-window_index (x ∷ xs) [] is a other = refl
get_or-window_index (x ∷ xs) (j ∷ js) is a other =
    let parts = or_parts (nat_eq a x) (is_among a xs) other in
    get_or-set_other (window_index xs js is) x a (get_or is x 0 + j) 0 (eqb-false a x parts.0)
    ∙ get_or-window_index xs js is a parts.1

-- the positions along an axis that the kernel has
pub get_or-window_dims-at : (rank : ℕ) (axes ks ds : List ℕ) (j : ℕ) → rank ≡ length ds
    → are_axes rank axes ≡ true → length ks ≡ length axes → j < length axes
    → get_or (window_dims axes ks ds) (get_or axes j 0) 0
    ≡ get_or ds (get_or axes j 0) 0 - get_or ks j 0 + 1
get_or-window_dims-at rank [] ks ds j same once long within = absurd (omega arith)
get_or-window_dims-at rank (x ∷ xs) [] ds j same once long within = absurd (omega arith)
get_or-window_dims-at rank (x ∷ xs) (k ∷ ks) ds zero same once long within =
    let inside : x < length (window_dims xs ks ds) =
    omega (arith, (are_axes-first rank x xs once).below, length-window_dims xs ks ds) in
    get_or-set_same (window_dims xs ks ds) x (get_or ds x 0 - k + 1) 0 inside
get_or-window_dims-at rank (x ∷ xs) (k ∷ ks) ds (suc j) same once long within =
    let axis = are_axes-first rank x xs once in
    let other : get_or xs j 0 ≡ x → ⊥ =
    λ here. let among : is_among x xs ≡ true =
    rw (← here) (is_among-get_or xs j (omega arith)) in
    cc (among, axis.alone) in
    get_or-set_other (window_dims xs ks ds) x (get_or xs j 0) (get_or ds x 0 - k + 1) 0 other
    ∙ get_or-window_dims-at rank xs ks ds j same axis.rest (omega arith) (omega arith)

-- no dimension grows
bulk_of-set : (ds : List ℕ) (x v : ℕ) → v ≤ get_or ds x 0 → bulk_of (set ds x v) ≤ bulk_of ds
bulk_of-set [] x v less = omega arith
bulk_of-set (d ∷ ds) zero v less =
    let first : max 1 v ≤ max 1 d = omega arith in
    mul-le-mul_right (bulk_of ds) first
bulk_of-set (d ∷ ds) (suc x) v less = mul-le-mul_left (max 1 d) (bulk_of-set ds x v less)

pub get_or-window_dims-le : (rank : ℕ) (axes ks ds : List ℕ) (a : ℕ) → rank ≡ length ds
    → are_axes rank axes ≡ true → fit_along axes ks ds ≡ true
    → get_or (window_dims axes ks ds) a 0 ≤ get_or ds a 0
get_or-window_dims-le rank [] ks ds a same once fits = omega arith
get_or-window_dims-le rank (x ∷ xs) [] ds a same once fits = omega arith
get_or-window_dims-le rank (x ∷ xs) (k ∷ ks) ds a same once fits =
    let axis = are_axes-first rank x xs once in
    let first = fit_along-first x k xs ks ds fits in
    let es : List ℕ = window_dims xs ks ds in
    let v : ℕ = get_or ds x 0 - k + 1 in
    let inside : x < length es = omega (arith, axis.below, length-window_dims xs ks ds) in
    elim (cases_eq a x) [
      | inl here ↦
          rw (here, get_or-set_same es x v 0 inside) (omega (arith, first.some, first.within))
      | inr other ↦
          rw (get_or-set_other es x a v 0 other)
          (get_or-window_dims-le rank xs ks ds a same axis.rest first.rest)
    ]

bulk_of-window_dims : (rank : ℕ) (axes ks ds : List ℕ) → are_axes rank axes ≡ true
    → fit_along axes ks ds ≡ true → bulk_of (window_dims axes ks ds) ≤ bulk_of ds
bulk_of-window_dims rank [] ks ds once fits = omega arith
bulk_of-window_dims rank (x ∷ xs) [] ds once fits = omega arith
bulk_of-window_dims rank (x ∷ xs) (k ∷ ks) ds once fits =
    let axis = are_axes-first rank x xs once in
    let first = fit_along-first x k xs ks ds fits in
    let here = get_or-window_dims xs ks ds x axis.alone in
    let less = bulk_of-set (window_dims xs ks ds) x (get_or ds x 0 - k + 1)
    (omega (arith, first.some, first.within, here)) in
    omega (arith, less, bulk_of-window_dims rank xs ks ds axis.rest first.rest)

pub are_legal-window_dims : (axes ks ds : List ℕ) → IsLegal ds → are_axes (length ds) axes ≡ true
    → fit_along axes ks ds ≡ true → are_legal widest (window_dims axes ks ds) ≡ true
are_legal-window_dims axes ks ds legal once fits =
    are_legal-below ds (window_dims axes ks ds) legal (omega (arith, length-window_dims axes ks ds))
    (bulk_of-window_dims (length ds) axes ks ds once fits)

-- index lists of smaller dims, and with another number
IsIndexOf-smaller : (ds is : List ℕ) (x v : ℕ) → v ≤ get_or ds x 0 → IsIndexOf (set ds x v) is
    → IsIndexOf ds is
IsIndexOf-smaller [] is x v less index = index
IsIndexOf-smaller (d ∷ ds) [] zero v less index = absurd index
IsIndexOf-smaller (d ∷ ds) [] (suc x) v less index = absurd index
IsIndexOf-smaller (d ∷ ds) (i ∷ is) zero v less index = (omega (arith, index.0), index.1)
IsIndexOf-smaller (d ∷ ds) (i ∷ is) (suc x) v less index =
    (index.0, IsIndexOf-smaller ds is x v less index.1)

IsIndexOf-set : (ds is : List ℕ) (x i : ℕ) → i < get_or ds x 0 → IsIndexOf ds is
    → IsIndexOf ds (set is x i)
IsIndexOf-set [] [] x i below index = index
IsIndexOf-set [] (j ∷ is) x i below index = absurd index
IsIndexOf-set (d ∷ ds) [] x i below index = absurd index
IsIndexOf-set (d ∷ ds) (j ∷ is) zero i below index = (below, index.1)
IsIndexOf-set (d ∷ ds) (j ∷ is) (suc x) i below index =
    (index.0, IsIndexOf-set ds is x i below index.1)

-- what lies under a kernel is an index list of the operand
pub IsIndexOf-window_index : (axes ks ds js is : List ℕ) → are_axes (length ds) axes ≡ true
    → fit_along axes ks ds ≡ true → IsIndexOf (window_dims axes ks ds) is → IsIndexOf ks js
    → IsIndexOf ds (window_index axes js is)
IsIndexOf-window_index [] ks ds js is once fits outer inner = outer
IsIndexOf-window_index (x ∷ xs) [] ds [] is once fits outer inner = outer
IsIndexOf-window_index (x ∷ xs) [] ds (j ∷ js) is once fits outer inner = absurd inner
IsIndexOf-window_index (x ∷ xs) (k ∷ ks) ds [] is once fits outer inner = absurd inner
IsIndexOf-window_index (x ∷ xs) (k ∷ ks) ds (j ∷ js) is once fits outer inner =
    let axis = are_axes-first (length ds) x xs once in
    let first = fit_along-first x k xs ks ds fits in
    let v : ℕ = get_or ds x 0 - k + 1 in
    let es : List ℕ = window_dims xs ks ds in
    let here : get_or es x 0 ≡ get_or ds x 0 = get_or-window_dims xs ks ds x axis.alone in
    let long : length es ≡ length ds = length-window_dims xs ks ds in
    let inside : x < length es = omega (arith, axis.below) in
    let size : get_or (set es x v) x 0 ≡ v = get_or-set_same es x v 0 inside in
    let full : length (set es x v) ≡ length es = length-set es x v in
    let below : get_or is x 0 < get_or (set es x v) x 0 =
    get_or-IsIndexOf (set es x v) is x outer (omega arith) in
    let less = IsIndexOf-smaller es is x v (omega (arith, first.some, first.within)) outer in
    IsIndexOf-set ds (window_index xs js is) x (get_or is x 0 + j)
    (omega (arith, inner.0, first.some, first.within))
    (IsIndexOf-window_index xs ks ds js is axis.rest first.rest less inner.1)
