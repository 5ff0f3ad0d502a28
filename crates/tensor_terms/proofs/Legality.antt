-- Result dims that need no test of being legal.
use Rattle.std.proofs.Common.{◌≡◌, ℕ, zero, suc, ◌+◌, ◌*◌, ◌<◌, ◌≤◌, max, List, [], ◌∷◌, length, get_or, remove}
use Rattle.std.proofs.Common.{true, false, nat_le, nat_lt, inl, inr, arith}
use Rattle.std.proofs.lemmas.Bool.{cases_Bool, and_parts, and_from, and_right, leb-true, leb-false, ltb-true, le-leb, lt-leb}
use Rattle.std.proofs.lemmas.List.{length-map}
use Rattle.std.proofs.lemmas.Grind.{div_ceil_times}
use Rattle.std.proofs.Math.Nat.{mul-le-mul, mul-le-mul_left, mul-le-mul_right}
use Rattle.std.specs.Int.{div_ceil}
use Rattle.tensor_shape.specs.Legal.{highest_rank, widest, most_elements, bulk_of, IsLegal, are_legal}
use Rattle.tensor_shape.specs.declared.bounds.Bounds.{Bounds}
use Rattle.tensor_shape.proofs.Sizes.{one-le-bulk_of, bulk_of-take-le, bulk_of-drop-le}
use Rattle.tensor_terms.specs.Movement.{fit_within, repeated_dims, shuffled_dims, strided_dims, none_is_zero, has_all_below}
use Rattle.tensor_terms.proofs.Permutations.{bulk_of-permutation}

-- dims with no more axes and no greater bulk than legal ones
pub are_legal-below : (ds es : List ℕ) → IsLegal ds → length es ≤ length ds → bulk_of es ≤ bulk_of ds → are_legal widest es ≡ true
are_legal-below ds es legal shorter smaller =
    and_from (nat_le (length es) highest_rank) (nat_le (bulk_of es) most_elements)
    (le-leb (length es) highest_rank (omega (arith, legal.rank)))
    (le-leb (bulk_of es) most_elements (omega (arith, legal.elements)))

-- no extent of a slice is above its dimension
bulk_of-slice : (ds os es : List ℕ) → length os ≡ length ds → length es ≡ length ds → fit_within ds os es ≡ true → bulk_of es ≤ bulk_of ds
bulk_of-slice [] os [] same long fits = omega arith
bulk_of-slice [] os (e ∷ es) same long fits = absurd (omega arith)
bulk_of-slice (d ∷ ds) [] es same long fits = absurd (omega arith)
bulk_of-slice (d ∷ ds) (o ∷ os) [] same long fits = absurd (omega arith)
bulk_of-slice (d ∷ ds) (o ∷ os) (e ∷ es) same long fits =
    let parts = and_parts (nat_le (o + e) d) (fit_within ds os es) fits in
    let first : max 1 e ≤ max 1 d = omega (arith, leb-true (o + e) d parts.0) in
    mul-le-mul first (bulk_of-slice ds os es (omega arith) (omega arith) parts.1)

pub are_legal-slice : (ds os es : List ℕ) → IsLegal ds → length os ≡ length ds → length es ≡ length ds → fit_within ds os es ≡ true
    → are_legal widest es ≡ true
are_legal-slice ds os es legal same long fits =
    are_legal-below ds es legal (omega arith) (bulk_of-slice ds os es same long fits)

-- a shuffle keeps the bulk
pub are_legal-shuffle : (ds order : List ℕ) → IsLegal ds → length order ≡ length ds → has_all_below (length ds) order ≡ true
    → are_legal widest (shuffled_dims ds order) ≡ true
are_legal-shuffle ds order legal long all =
    are_legal-below ds (shuffled_dims ds order) legal (omega (arith, length-map order (λ s. get_or ds s 0)))
    (omega (arith, bulk_of-permutation ds (length ds) order (omega arith) long all, bulk_of-take-le ds (length ds)))

-- a chip has an axis fewer
pub bulk_of-remove : (ds : List ℕ) (k : ℕ) → bulk_of (remove ds k) ≤ bulk_of ds
bulk_of-remove [] zero = omega arith
bulk_of-remove [] (suc k) = omega arith
bulk_of-remove (d ∷ ds) zero =
    let factor : 1 ≤ max 1 d = omega arith in
    omega (arith, mul-le-mul {n₁ = 1} factor (bulk_of-drop-le ds 0))
bulk_of-remove (d ∷ ds) (suc k) = mul-le-mul_left (max 1 d) (bulk_of-remove ds k)

length-remove : (ds : List ℕ) (k : ℕ) → length (remove ds k) ≤ length ds
length-remove [] zero = omega arith
length-remove [] (suc k) = omega arith
length-remove (d ∷ ds) zero = omega arith
length-remove (d ∷ ds) (suc k) = omega (arith, length-remove ds k)

pub are_legal-chip : (ds : List ℕ) (k : ℕ) → IsLegal ds → are_legal widest (remove ds k) ≡ true
are_legal-chip ds k legal = are_legal-below ds (remove ds k) legal (length-remove ds k) (bulk_of-remove ds k)

-- a stride has no greater dimension
pub div_ceil-below : (d s : ℕ) → 0 < s → div_ceil d s ≤ d
div_ceil-below d s some =
    let times = div_ceil_times d s some in
    elim (cases_Bool (nat_le (div_ceil d s) d)) [
      | inl within ↦ leb-true (div_ceil d s) d within
      | inr past ↦
          let more : (d + 1) * s ≤ div_ceil d s * s = mul-le-mul_right s (omega (arith, leb-false (div_ceil d s) d past)) in
          let each : d * 1 ≤ d * s = mul-le-mul_left d some in
          let next : (d + 1) * s ≡ d * s + s = grind arith in
          absurd (omega (arith, times.1, more, each, next))
    ]

bulk_of-stride : (ds ss : List ℕ) → none_is_zero ss ≡ true → bulk_of (strided_dims ds ss) ≤ bulk_of ds
bulk_of-stride [] ss some = omega arith
bulk_of-stride (d ∷ ds) [] some = omega (arith, one-le-bulk_of (d ∷ ds))
bulk_of-stride (d ∷ ds) (s ∷ ss) some =
    let parts = and_parts (nat_lt 0 s) (none_is_zero ss) some in
    let first : max 1 (div_ceil d s) ≤ max 1 d = omega (arith, div_ceil-below d s (ltb-true 0 s parts.0)) in
    mul-le-mul first (bulk_of-stride ds ss parts.1)

length-stride : (ds ss : List ℕ) → length (strided_dims ds ss) ≤ length ds
length-stride [] ss = omega arith
length-stride (d ∷ ds) [] = omega arith
length-stride (d ∷ ds) (s ∷ ss) = omega (arith, length-stride ds ss)

pub are_legal-stride : (ds ss : List ℕ) → IsLegal ds → none_is_zero ss ≡ true → are_legal widest (strided_dims ds ss) ≡ true
are_legal-stride ds ss legal some = are_legal-below ds (strided_dims ds ss) legal (length-stride ds ss) (bulk_of-stride ds ss some)

-- one dimension of a broadcast is within the whole
repeated_dims-within : (ds cs : List ℕ) (i : ℕ) → length cs ≡ length ds → i < length ds
    → get_or ds i 0 * get_or cs i 0 ≤ bulk_of (repeated_dims ds cs)
repeated_dims-within [] cs i same within = absurd (omega arith)
repeated_dims-within (d ∷ ds) [] i same within = absurd (omega arith)
repeated_dims-within (d ∷ ds) (c ∷ cs) zero same within =
    let first : d * c ≤ max 1 (d * c) = omega arith in
    omega (arith, mul-le-mul first (one-le-bulk_of (repeated_dims ds cs)))
repeated_dims-within (d ∷ ds) (c ∷ cs) (suc i) same within =
    let first : 1 ≤ max 1 (d * c) = omega arith in
    omega (arith, mul-le-mul {n₁ = 1} first (repeated_dims-within ds cs i (omega arith) (omega arith)))

-- so a broadcast with a dimension past the limit isn't legal
pub are_legal-repeated : (bounds : Bounds) (ds cs : List ℕ) (i : ℕ) → length cs ≡ length ds → i < length ds
    → bounds.elements < get_or ds i 0 * get_or cs i 0 → are_legal bounds (repeated_dims ds cs) ≡ false
are_legal-repeated bounds ds cs i same within past =
    and_right (nat_le (length (repeated_dims ds cs)) bounds.rank) (nat_le (bulk_of (repeated_dims ds cs)) bounds.elements)
    (lt-leb (bulk_of (repeated_dims ds cs)) bounds.elements (omega (arith, repeated_dims-within ds cs i same within)))
