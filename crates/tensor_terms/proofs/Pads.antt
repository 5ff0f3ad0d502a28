-- Pads: their dims, and their values axis by axis.
use Rattle.std.proofs.Common.{◌≡◌, ℕ, zero, suc, ◌+◌, ◌-◌, ◌<◌, ◌≤◌, max, ℤ, List, [], ◌∷◌, length, get_or, set}
use Rattle.std.proofs.Common.{Bool, true, false, ◌&&◌, nat_le, nat_lt, nat_eq, Ok, IsOk, refl, ap, sym, ◌∙◌, inl, inr, arith}
use Rattle.std.proofs.lemmas.Bool.{cases_Bool, and_parts, and_from, and_right, lt-leb, le-leb, leb-true, ltb-true, lt-ltb, eqb-true}
use Rattle.std.proofs.Math.Nat.{mul-le-mul}
use Rattle.tensor_shape.specs.Index.{IsIndexOf}
use Rattle.tensor_shape.specs.Legal.{widest, bulk_of, IsLegal, are_legal}
use Rattle.tensor_shape.specs.declared.bounds.Bounds.{Bounds}
use Rattle.tensor_shape.proofs.Sizes.{one-le-bulk_of}
use Rattle.tensor_terms.specs.Padding.{padded_dims, pad_dims, is_inside, moved_back, padded}
use Rattle.tensor_values.specs.Interleaving.{padded_along}
use Rattle.tensor_terms.specs.declared.fault.ExprFault.TheVariants.{ShapeMismatch, TooLarge}
use Rattle.tensor_terms.proofs.Known.{check-known, IsLegal-are_legal}

-- one dimension of a pad is within the whole
padded_dims-within : (ps : List (ℕ × ℕ)) (ds : List ℕ) (i : ℕ) → length ps ≡ length ds → i < length ds
    → (get_or ps i (0, 0)).0 + get_or ds i 0 + (get_or ps i (0, 0)).1 ≤ bulk_of (padded_dims ps ds)
padded_dims-within ps [] i same within = absurd (omega arith)
padded_dims-within [] (d ∷ ds) i same within = absurd (omega arith)
padded_dims-within (p ∷ ps) (d ∷ ds) zero same within =
    let first : p.0 + d + p.1 ≤ max 1 (p.0 + d + p.1) = omega arith in
    omega (arith, mul-le-mul first (one-le-bulk_of (padded_dims ps ds)))
padded_dims-within (p ∷ ps) (d ∷ ds) (suc i) same within =
    let first : 1 ≤ max 1 (p.0 + d + p.1) = omega arith in
    omega (arith, mul-le-mul {n₁ = 1} first (padded_dims-within ps ds i (omega arith) (omega arith)))

-- so a pad with a dimension past the limit isn't legal
pub are_legal-padded : (bounds : Bounds) (ps : List (ℕ × ℕ)) (ds : List ℕ) (i : ℕ) → length ps ≡ length ds → i < length ds
    → bounds.elements < (get_or ps i (0, 0)).0 + get_or ds i 0 + (get_or ps i (0, 0)).1 → are_legal bounds (padded_dims ps ds) ≡ false
are_legal-padded bounds ps ds i same within past =
    and_right (nat_le (length (padded_dims ps ds)) bounds.rank) (nat_le (bulk_of (padded_dims ps ds)) bounds.elements)
    (lt-leb (bulk_of (padded_dims ps ds)) bounds.elements (omega (arith, padded_dims-within ps ds i same within)))

-- what the checks of a pad passed
pub record IsPad (ps : List (ℕ × ℕ)) (ds : List ℕ) : Type 0 where
  pub long : length ps ≡ length ds
  pub legal : IsLegal (padded_dims ps ds)
  pub dims : pad_dims widest ps ds ≡ Ok (padded_dims ps ds)

pub pad-known : (ps : List (ℕ × ℕ)) (ds : List ℕ) → IsOk (pad_dims widest ps ds) → IsPad ps ds
pad-known ps ds h =
    let long = check-known (nat_eq (length ps) (length ds)) _ ShapeMismatch h in
    let legal = check-known (are_legal widest (padded_dims ps ds)) _ TooLarge long.1 in
    record {
      long = eqb-true (length ps) (length ds) long.0;
      legal = IsLegal-are_legal (padded_dims ps ds) legal.0;
      dims = rw (long.0, legal.0) refl;
    }

pub length-padded_dims : (ps : List (ℕ × ℕ)) (ds : List ℕ) → length ps ≡ length ds → length (padded_dims ps ds) ≡ length ds
length-padded_dims [] [] same = refl
length-padded_dims [] (d ∷ ds) same = absurd (omega arith)
length-padded_dims (p ∷ ps) [] same = absurd (omega arith)
length-padded_dims (p ∷ ps) (d ∷ ds) same = ap suc (length-padded_dims ps ds (omega arith))

-- an index list that is inside is one of the operand, moved back
pub IsIndexOf-moved_back : (ps : List (ℕ × ℕ)) (ds is : List ℕ) → length ps ≡ length ds → IsIndexOf (padded_dims ps ds) is
    → is_inside ps ds is ≡ true → IsIndexOf ds (moved_back ps is)
IsIndexOf-moved_back [] [] is same index inside = tt
IsIndexOf-moved_back [] (d ∷ ds) is same index inside = absurd (omega arith)
IsIndexOf-moved_back (p ∷ ps) [] is same index inside = absurd (omega arith)
IsIndexOf-moved_back (p ∷ ps) (d ∷ ds) [] same index inside = absurd index
IsIndexOf-moved_back (p ∷ ps) (d ∷ ds) (i ∷ is) same index inside =
    let parts = and_parts (nat_le p.0 i && nat_lt i (p.0 + d)) (is_inside ps ds is) inside in
    let here = and_parts (nat_le p.0 i) (nat_lt i (p.0 + d)) parts.0 in
    let low : p.0 ≤ i = leb-true p.0 i here.0 in
    let high : i < p.0 + d = ltb-true i (p.0 + d) here.1 in
    (omega arith, IsIndexOf-moved_back ps ds is (omega arith) index.1 parts.1)

-- pads of values that agree
pub padded-other : (ps : List (ℕ × ℕ)) (ds : List ℕ) (f g : List ℕ → ℤ) → length ps ≡ length ds
    → ((js : List ℕ) → IsIndexOf ds js → f js ≡ g js)
    → (is : List ℕ) → IsIndexOf (padded_dims ps ds) is → padded ps ds f is ≡ padded ps ds g is
padded-other ps ds f g long same is index =
    elim (cases_Bool (is_inside ps ds is)) [
      | inl inside ↦ rw inside (same (moved_back ps is) (IsIndexOf-moved_back ps ds is long index inside))
      | inr outside ↦ rw outside refl
    ]

-- the pairs of the first axes, and none at the others
abbrev pub first_pads : ℕ → List (ℕ × ℕ) → List (ℕ × ℕ)
first_pads zero [] = []
first_pads zero (p ∷ ps) = (0, 0) ∷ first_pads zero ps
first_pads (suc k) [] = []
first_pads (suc k) (p ∷ ps) = p ∷ first_pads k ps

pub first_pads-all : (ps : List (ℕ × ℕ)) → first_pads (length ps) ps ≡ ps
first_pads-all [] = refl
first_pads-all (p ∷ ps) = ap (λ l. p ∷ l) (first_pads-all ps)

-- none at any axis leaves all as it is
pub padded_dims-none : (ps : List (ℕ × ℕ)) (ds : List ℕ) → length ps ≡ length ds → padded_dims (first_pads zero ps) ds ≡ ds
padded_dims-none [] [] same = refl
padded_dims-none [] (d ∷ ds) same = absurd (omega arith)
padded_dims-none (p ∷ ps) [] same = absurd (omega arith)
padded_dims-none (p ∷ ps) (d ∷ ds) same =
    let first : 0 + d + 0 ≡ d = omega arith in
    ap (λ n. n ∷ padded_dims (first_pads zero ps) ds) first ∙ ap (λ l. d ∷ l) (padded_dims-none ps ds (omega arith))

inside-none : (ps : List (ℕ × ℕ)) (ds is : List ℕ) → length ps ≡ length ds → IsIndexOf ds is
    → (is_inside (first_pads zero ps) ds is ≡ true) × (moved_back (first_pads zero ps) is ≡ is)
inside-none [] [] [] same index = (refl, refl)
inside-none [] [] (i ∷ is) same index = absurd index
inside-none [] (d ∷ ds) is same index = absurd (omega arith)
inside-none (p ∷ ps) [] is same index = absurd (omega arith)
inside-none (p ∷ ps) (d ∷ ds) [] same index = absurd index
inside-none (p ∷ ps) (d ∷ ds) (i ∷ is) same index =
    let rest = inside-none ps ds is (omega arith) index.1 in
    let low : nat_le 0 i ≡ true = le-leb 0 i (omega arith) in
    let high : nat_lt i (0 + d) ≡ true = lt-ltb i (0 + d) (omega (arith, index.0)) in
    (rw (low, high) rest.0, ap (λ l. (i - 0) ∷ l) rest.1 ∙ ap (λ n. n ∷ is) (omega arith))

pub padded-none : (ps : List (ℕ × ℕ)) (ds is : List ℕ) (a : List ℕ → ℤ) → length ps ≡ length ds → IsIndexOf ds is
    → a is ≡ padded (first_pads zero ps) ds a is
padded-none ps ds is a same index =
    let none = inside-none ps ds is same index in
    rw (none.0) (ap a (sym none.1))

-- an axis more
pub padded_dims-more : (k : ℕ) (ps : List (ℕ × ℕ)) (ds : List ℕ) → length ps ≡ length ds → k < length ps
    → (get_or (padded_dims (first_pads k ps) ds) k 0 ≡ get_or ds k 0)
    × (padded_dims (first_pads (suc k) ps) ds
    ≡ set (padded_dims (first_pads k ps) ds) k ((get_or ps k (0, 0)).0 + get_or ds k 0 + (get_or ps k (0, 0)).1))
padded_dims-more k [] ds same within = absurd (omega arith)
padded_dims-more k (p ∷ ps) [] same within = absurd (omega arith)
padded_dims-more zero (p ∷ ps) (d ∷ ds) same within = (omega arith, refl)
padded_dims-more (suc k) (p ∷ ps) (d ∷ ds) same within =
    let rest = padded_dims-more k ps ds (omega arith) (omega arith) in
    (rest.0, ap (λ l. (p.0 + d + p.1) ∷ l) rest.1)

-- no more than the whole
pub bulk_of-first_pads : (k : ℕ) (ps : List (ℕ × ℕ)) (ds : List ℕ) → bulk_of (padded_dims (first_pads k ps) ds) ≤ bulk_of (padded_dims ps ds)
bulk_of-first_pads zero [] ds = omega arith
bulk_of-first_pads (suc k) [] ds = omega arith
bulk_of-first_pads zero (p ∷ ps) [] = omega arith
bulk_of-first_pads (suc k) (p ∷ ps) [] = omega arith
bulk_of-first_pads zero (p ∷ ps) (d ∷ ds) =
    let first : max 1 (0 + d + 0) ≤ max 1 (p.0 + d + p.1) = omega arith in
    mul-le-mul first (bulk_of-first_pads zero ps ds)
bulk_of-first_pads (suc k) (p ∷ ps) (d ∷ ds) =
    let first : max 1 (p.0 + d + p.1) ≤ max 1 (p.0 + d + p.1) = omega arith in
    mul-le-mul first (bulk_of-first_pads k ps ds)

-- whether an index list is inside, and which one it is then, axis by axis
abbrev pub inside_along : ℕ → ℕ → List ℕ → List ℕ → Bool
inside_along k before ds is = nat_le before (get_or is k 0) && nat_lt (get_or is k 0) (before + get_or ds k 0)

and-absorb : (t u r : Bool) → (t ≡ true → u ≡ true) → (t && r) ≡ (t && (u && r))
and-absorb true u r implied = rw (implied refl) refl
and-absorb false u r implied = refl

and-swap : (x t r : Bool) → (x && (t && r)) ≡ (t && (x && r))
and-swap true t r = refl
and-swap false true r = refl
and-swap false false r = refl

inside-more : (k : ℕ) (ps : List (ℕ × ℕ)) (ds is : List ℕ) → length ps ≡ length ds → length is ≡ length ds → k < length ps
    → is_inside (first_pads (suc k) ps) ds is
    ≡ (inside_along k (get_or ps k (0, 0)).0 ds is && is_inside (first_pads k ps) ds (set is k (get_or is k 0 - (get_or ps k (0, 0)).0)))
inside-more k [] ds is same long within = absurd (omega arith)
inside-more k (p ∷ ps) [] is same long within = absurd (omega arith)
inside-more k (p ∷ ps) (d ∷ ds) [] same long within = absurd (omega arith)
inside-more zero (p ∷ ps) (d ∷ ds) (i ∷ is) same long within =
    and-absorb (nat_le p.0 i && nat_lt i (p.0 + d)) (nat_le 0 (i - p.0) && nat_lt (i - p.0) (0 + d)) (is_inside (first_pads zero ps) ds is)
    (λ both.
    let parts = and_parts (nat_le p.0 i) (nat_lt i (p.0 + d)) both in
    let low : p.0 ≤ i = leb-true p.0 i parts.0 in
    let high : i < p.0 + d = ltb-true i (p.0 + d) parts.1 in
    and_from (nat_le 0 (i - p.0)) (nat_lt (i - p.0) (0 + d)) (le-leb 0 (i - p.0) (omega arith)) (lt-ltb (i - p.0) (0 + d) (omega arith)))
inside-more (suc k) (p ∷ ps) (d ∷ ds) (i ∷ is) same long within =
    ap (λ b. (nat_le p.0 i && nat_lt i (p.0 + d)) && b) (inside-more k ps ds is (omega arith) (omega arith) (omega arith))
    ∙ and-swap (nat_le p.0 i && nat_lt i (p.0 + d)) (inside_along k (get_or ps k (0, 0)).0 ds is)
    (is_inside (first_pads k ps) ds (set is k (get_or is k 0 - (get_or ps k (0, 0)).0)))

moved_back-more : (k : ℕ) (ps : List (ℕ × ℕ)) (is : List ℕ) → length is ≡ length ps → k < length ps
    → moved_back (first_pads (suc k) ps) is ≡ moved_back (first_pads k ps) (set is k (get_or is k 0 - (get_or ps k (0, 0)).0))
moved_back-more k [] is same within = absurd (omega arith)
moved_back-more k (p ∷ ps) [] same within = absurd (omega arith)
moved_back-more zero (p ∷ ps) (i ∷ is) same within = ap (λ n. n ∷ moved_back (first_pads zero ps) is) (omega arith)
moved_back-more (suc k) (p ∷ ps) (i ∷ is) same within =
    ap (λ l. (i - p.0) ∷ l) (moved_back-more k ps is (omega arith) (omega arith))

pub padded-more : (k : ℕ) (ps : List (ℕ × ℕ)) (ds is : List ℕ) (a : List ℕ → ℤ) → length ps ≡ length ds → length is ≡ length ds → k < length ps
    → padded_along k (get_or ps k (0, 0)).0 ds (padded (first_pads k ps) ds a) is ≡ padded (first_pads (suc k) ps) ds a is
padded-more k ps ds is a same long within =
    let inside = inside-more k ps ds is same long within in
    let back = moved_back-more k ps is (omega arith) within in
    elim (cases_Bool (inside_along k (get_or ps k (0, 0)).0 ds is)) [
      | inl here ↦
          let whole : is_inside (first_pads (suc k) ps) ds is ≡ is_inside (first_pads k ps) ds (set is k (get_or is k 0 - (get_or ps k (0, 0)).0)) =
          inside ∙ ap (λ b. b && is_inside (first_pads k ps) ds (set is k (get_or is k 0 - (get_or ps k (0, 0)).0))) here in
          rw (here, whole, back) refl
      | inr outside ↦
          let whole : is_inside (first_pads (suc k) ps) ds is ≡ false =
          inside ∙ ap (λ b. b && is_inside (first_pads k ps) ds (set is k (get_or is k 0 - (get_or ps k (0, 0)).0))) outside in
          rw (outside, whole) refl
    ]

-- an index list that is inside along an axis is one of the operand, moved back along it
pub IsIndexOf-along : (k before n : ℕ) (ds is : List ℕ) → k < length ds → IsIndexOf (set ds k n) is → inside_along k before ds is ≡ true
    → IsIndexOf ds (set is k (get_or is k 0 - before))
IsIndexOf-along k before n [] is within index inside = absurd (omega arith)
IsIndexOf-along zero before n (d ∷ ds) [] within index inside = absurd index
IsIndexOf-along (suc k) before n (d ∷ ds) [] within index inside = absurd index
IsIndexOf-along zero before n (d ∷ ds) (i ∷ is) within index inside =
    let parts = and_parts (nat_le before i) (nat_lt i (before + d)) inside in
    let low : before ≤ i = leb-true before i parts.0 in
    let high : i < before + d = ltb-true i (before + d) parts.1 in
    (omega arith, index.1)
IsIndexOf-along (suc k) before n (d ∷ ds) (i ∷ is) within index inside =
    (index.0, IsIndexOf-along k before n ds is (omega arith) index.1 inside)

-- so pads along an axis of values that agree, agree
pub padded_along-other : (k before n : ℕ) (ds is : List ℕ) (f g : List ℕ → ℤ) → k < length ds → IsIndexOf (set ds k n) is
    → ((js : List ℕ) → IsIndexOf ds js → f js ≡ g js) → padded_along k before ds f is ≡ padded_along k before ds g is
padded_along-other k before n ds is f g within index same =
    elim (cases_Bool (inside_along k before ds is)) [
      | inl inside ↦ rw inside (same (set is k (get_or is k 0 - before)) (IsIndexOf-along k before n ds is within index inside))
      | inr outside ↦ rw outside refl
    ]

-- dims with one size less have no greater bulk
pub bulk_of-set-le : (k x y : ℕ) (ds : List ℕ) → x ≤ y → bulk_of (set ds k x) ≤ bulk_of (set ds k y)
bulk_of-set-le k x y [] le = omega arith
bulk_of-set-le zero x y (d ∷ ds) le =
    let first : max 1 x ≤ max 1 y = omega arith in
    let rest : bulk_of ds ≤ bulk_of ds = omega arith in
    mul-le-mul first rest
bulk_of-set-le (suc k) x y (d ∷ ds) le =
    let first : max 1 d ≤ max 1 d = omega arith in
    mul-le-mul first (bulk_of-set-le k x y ds le)
