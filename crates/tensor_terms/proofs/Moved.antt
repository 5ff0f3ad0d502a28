-- A moved index list is an index list of the operand's dims.
use Rattle.std.proofs.Common.{◌≡◌, ℕ, zero, suc, ◌+◌, ◌-◌, ◌*◌, ◌<◌, ◌≤◌, List, [], ◌∷◌, length, map, get_or, drop, insert, remove}
use Rattle.std.proofs.Common.{Bool, true, false, nat_le, nat_lt, if◌then◌else◌, Ok, IsOk, ap, subst, ◌∙◌, arith, inl, inr, refl}
use Rattle.std.proofs.Common.{nat_eq}
use Rattle.std.proofs.lemmas.Bool.{and_parts, or_parts, eqb-false, cases_eq, leb-true, ltb-true}
use Rattle.std.proofs.lemmas.List.{length-set, get_or-set_other, get_or-set_same, length-map}
use Rattle.std.proofs.lemmas.Grind.{div_ceil_times}
use Rattle.std.proofs.Math.Nat.{mod-lt, mul-le-mul_right}
use Rattle.std.specs.Int.{div_ceil}
use Rattle.tensor_shape.specs.Index.{IsIndexOf, place}
use Rattle.tensor_shape.specs.Legal.{widest, most_elements, bulk_of, IsLegal}
use Rattle.tensor_shape.proofs.Places.{length-IsIndexOf, place-below-size_of, IsIndexOf-index_of}
use Rattle.tensor_shape.proofs.Sizes.{bulk_of-drop-le, mul-le-bulk_of}
use Rattle.tensor_terms.specs.Movement.{moved_dims, moved, wrapped, offset_by, scattered, mirrored, scaled}
use Rattle.tensor_terms.specs.Movement.{repeated_dims, shuffled_dims, strided_dims, fit_within, none_is_zero, is_among}
use Rattle.tensor_terms.specs.Term.{Movement, broadcast, slice, shuffle, reshape, chip, reverse, stride}
use Rattle.tensor_terms.proofs.Known.{moved_dims-unique, broadcast-known, slice-known, shuffle-known, reshape-known, chip-known, reverse-known, stride-known}
use Rattle.tensor_terms.proofs.Permutations.{is_among-rest, is_among-has_all_below}

-- a factor of what is above a number isn't 0
pub factor-above : (d c i : ℕ) → i < d * c → 0 < d
factor-above zero c i h = absurd (omega arith)
factor-above (suc d) c i h = omega arith

-- the first index list
abbrev pub zeros : List ℕ → List ℕ
zeros ds = map (λ d. 0) ds

pub get_or-zeros : (ds : List ℕ) (k : ℕ) → get_or (zeros ds) k 0 ≡ 0
get_or-zeros [] k = refl
get_or-zeros (d ∷ ds) zero = refl
get_or-zeros (d ∷ ds) (suc k) = get_or-zeros ds k

-- an axis that is not among those set stays
pub scattered-other : (a : ℕ) (ss is js : List ℕ) → is_among a ss ≡ false → get_or (scattered ss is js) a 0 ≡ get_or js a 0
scattered-other a [] is js h = refl
scattered-other a (s ∷ ss) [] js h = refl
scattered-other a (s ∷ ss) (i ∷ is) js h =
    let parts = or_parts (nat_eq a s) (is_among a ss) h in
    get_or-set_other (scattered ss is js) s a i 0 (eqb-false a s parts.0) ∙ scattered-other a ss is js parts.1

pub IsIndexOf-wrapped : (ds cs is : List ℕ) → length cs ≡ length ds → IsIndexOf (repeated_dims ds cs) is → IsIndexOf ds (wrapped ds is)
IsIndexOf-wrapped [] cs is same index = tt
IsIndexOf-wrapped (d ∷ ds) [] is same index = absurd (omega arith)
IsIndexOf-wrapped (d ∷ ds) (c ∷ cs) [] same index = absurd index
IsIndexOf-wrapped (d ∷ ds) (c ∷ cs) (i ∷ is) same index =
    (mod-lt i (factor-above d c i index.0), IsIndexOf-wrapped ds cs is (omega arith) index.1)

pub IsIndexOf-offset_by : (ds os es is : List ℕ) → length os ≡ length ds → length es ≡ length ds → fit_within ds os es ≡ true
    → IsIndexOf es is → IsIndexOf ds (offset_by os is)
IsIndexOf-offset_by [] [] es is same long fits index = tt
IsIndexOf-offset_by [] (o ∷ os) es is same long fits index = absurd (omega arith)
IsIndexOf-offset_by (d ∷ ds) [] es is same long fits index = absurd (omega arith)
IsIndexOf-offset_by (d ∷ ds) (o ∷ os) [] is same long fits index = absurd (omega arith)
IsIndexOf-offset_by (d ∷ ds) (o ∷ os) (e ∷ es) [] same long fits index = absurd index
IsIndexOf-offset_by (d ∷ ds) (o ∷ os) (e ∷ es) (i ∷ is) same long fits index =
    let parts = and_parts (nat_le (o + e) d) (fit_within ds os es) fits in
    let within = leb-true (o + e) d parts.0 in
    (omega (arith, within, index.0), IsIndexOf-offset_by ds os es is (omega arith) (omega arith) parts.1 index.1)

pub length-scattered : (ss is js : List ℕ) → length (scattered ss is js) ≡ length js
length-scattered [] is js = refl
length-scattered (s ∷ ss) [] js = refl
length-scattered (s ∷ ss) (i ∷ is) js = length-set (scattered ss is js) s i ∙ length-scattered ss is js

-- an axis among those set has an index of its own dimension
pub scattered-below : (ds order is js : List ℕ) (a : ℕ) → a < length ds → length js ≡ length ds → IsIndexOf (shuffled_dims ds order) is
    → is_among a order ≡ true → get_or (scattered order is js) a 0 < get_or ds a 0
scattered-below ds [] is js a within long index among = (cc)
scattered-below ds (s ∷ ss) [] js a within long index among = absurd index
scattered-below ds (s ∷ ss) (i ∷ is) js a within long index among =
    let full = length-scattered ss is js in
    elim (cases_eq a s) [
      | inl same ↦ rw same (rw (get_or-set_same (scattered ss is js) s i 0 (omega arith)) index.0)
      | inr other ↦ rw (get_or-set_other (scattered ss is js) s a i 0 other)
          (scattered-below ds ss is js a within long index.1 (is_among-rest a s ss other among))
    ]

-- an index list, by its indices
pub IsIndexOf-by_each : (ds js : List ℕ) → length js ≡ length ds → ((a : ℕ) → a < length ds → get_or js a 0 < get_or ds a 0) → IsIndexOf ds js
IsIndexOf-by_each [] [] long each = tt
IsIndexOf-by_each [] (j ∷ js) long each = absurd (omega arith)
IsIndexOf-by_each (d ∷ ds) [] long each = absurd (omega arith)
IsIndexOf-by_each (d ∷ ds) (j ∷ js) long each =
    (each 0 (omega arith), IsIndexOf-by_each ds js (omega arith) (λ a below. each (suc a) (omega arith)))

pub IsIndexOf-insert : (ds is : List ℕ) (axis offset : ℕ) → axis < length ds → offset < get_or ds axis 0 → IsIndexOf (remove ds axis) is
    → IsIndexOf ds (insert is axis offset)
IsIndexOf-insert [] is axis offset in_rank in_axis index = absurd (omega arith)
IsIndexOf-insert (d ∷ ds) is zero offset in_rank in_axis index = (in_axis, index)
IsIndexOf-insert (d ∷ ds) [] (suc axis) offset in_rank in_axis index = absurd index
IsIndexOf-insert (d ∷ ds) (i ∷ is) (suc axis) offset in_rank in_axis index =
    (index.0, IsIndexOf-insert ds is axis offset (omega arith) in_axis index.1)

mirrored-below : (f : Bool) (d i : ℕ) → i < d → (if f then d - 1 - i else i) < d
mirrored-below true d i below = omega arith
mirrored-below false d i below = below

pub IsIndexOf-mirrored : (ds is : List ℕ) (fs : List Bool) → length fs ≡ length ds → IsIndexOf ds is → IsIndexOf ds (mirrored fs ds is)
IsIndexOf-mirrored [] is [] same index = tt
IsIndexOf-mirrored [] is (f ∷ fs) same index = absurd (omega arith)
IsIndexOf-mirrored (d ∷ ds) is [] same index = absurd (omega arith)
IsIndexOf-mirrored (d ∷ ds) [] (f ∷ fs) same index = absurd index
IsIndexOf-mirrored (d ∷ ds) (i ∷ is) (f ∷ fs) same index =
    (mirrored-below f d i index.0, IsIndexOf-mirrored ds is fs (omega arith) index.1)

-- a multiple of a step that is read is below the dimension
pub mul-below-div_ceil : (d s i : ℕ) → 0 < s → i < div_ceil d s → i * s < d
mul-below-div_ceil d s i some below =
    let times = div_ceil_times d s some in
    let next : (i + 1) * s ≤ div_ceil d s * s = mul-le-mul_right s (omega arith) in
    let more : (i + 1) * s ≡ i * s + s = grind arith in
    omega (arith, times.1, next, more)

pub IsIndexOf-scaled : (ds is ss : List ℕ) → length ss ≡ length ds → none_is_zero ss ≡ true → IsIndexOf (strided_dims ds ss) is
    → IsIndexOf ds (scaled ss is)
IsIndexOf-scaled [] is [] same some index = tt
IsIndexOf-scaled [] is (s ∷ ss) same some index = absurd (omega arith)
IsIndexOf-scaled (d ∷ ds) is [] same some index = absurd (omega arith)
IsIndexOf-scaled (d ∷ ds) [] (s ∷ ss) same some index = absurd index
IsIndexOf-scaled (d ∷ ds) (i ∷ is) (s ∷ ss) same some index =
    let parts = and_parts (nat_lt 0 s) (none_is_zero ss) some in
    (mul-below-div_ceil d s i (ltb-true 0 s parts.0) index.0, IsIndexOf-scaled ds is ss (omega arith) parts.1 index.1)

-- the operand's dims, and those of the result
pub record IsMoved (m : Movement) (ds es : List ℕ) : Type 0 where
  pub dims : moved_dims widest m ds ≡ Ok es
  pub index : (is : List ℕ) → IsIndexOf es is → IsIndexOf ds (moved m ds is)

-- what is known of a movement that has result dims
pub moved-known : (m : Movement) (ds : List ℕ) → IsOk (moved_dims widest m ds) → (es : List ℕ) × IsMoved m ds es
moved-known (broadcast counts) ds h =
    let known = broadcast-known counts ds h in
    (repeated_dims ds counts, record { dims = known.dims; index = λ is index. IsIndexOf-wrapped ds counts is known.long index })
moved-known (slice offsets extents) ds h =
    let known = slice-known offsets extents ds h in (
      extents,
      record {
        dims = known.dims;
        index = λ is index. IsIndexOf-offset_by ds offsets extents is known.offsets_long known.extents_long known.fits index;
      },
    )
moved-known (shuffle order) ds h =
    let known = shuffle-known order ds h in
    let zeros : List ℕ = map (λ d. 0) ds in (
      shuffled_dims ds order,
      record {
        dims = known.dims;
        index = λ is index.
            IsIndexOf-by_each ds (scattered order is zeros) (length-scattered order is zeros ∙ length-map ds (λ d. 0))
            (λ a below. scattered-below ds order is zeros a below (length-map ds (λ d. 0)) index
            (is_among-has_all_below (length ds) a order known.all below));
      },
    )
moved-known (reshape sizes) ds h =
    let known = reshape-known sizes ds h in (
      sizes,
      record {
        dims = known.dims;
        index = λ is index. IsIndexOf-index_of ds (place sizes is) (rw (← known.same) (place-below-size_of sizes is index));
      },
    )
moved-known (chip offset axis) ds h =
    let known = chip-known offset axis ds h in
    (remove ds axis, record { dims = known.dims; index = λ is index. IsIndexOf-insert ds is axis offset known.in_rank known.in_axis index })
moved-known (reverse flags) ds h =
    let known = reverse-known flags ds h in
    (ds, record { dims = known.dims; index = λ is index. IsIndexOf-mirrored ds is flags known.long index })
moved-known (stride steps) ds h =
    let known = stride-known steps ds h in
    (strided_dims ds steps, record { dims = known.dims; index = λ is index. IsIndexOf-scaled ds is steps known.long known.some index })

-- so it reads inside of its operand
pub IsIndexOf-moved : (m : Movement) (ds es is : List ℕ) → moved_dims widest m ds ≡ Ok es → IsIndexOf es is → IsIndexOf ds (moved m ds is)
IsIndexOf-moved m ds es is dims index =
    let known = moved-known m ds (rw dims refl) in
    known.1.index is (subst (λ rs. IsIndexOf rs is) (moved_dims-unique m ds es known.0 dims known.1.dims) index)

-- each index is below its dimension
pub get_or-IsIndexOf : (ds is : List ℕ) (k : ℕ) → IsIndexOf ds is → k < length ds → get_or is k 0 < get_or ds k 0
get_or-IsIndexOf [] is k index within = absurd (omega arith)
get_or-IsIndexOf (d ∷ ds) [] k index within = absurd index
get_or-IsIndexOf (d ∷ ds) (i ∷ is) zero index within = index.0
get_or-IsIndexOf (d ∷ ds) (i ∷ is) (suc k) index within = get_or-IsIndexOf ds is k index.1 (omega arith)

pub get_or-offset_by : (os is : List ℕ) (k : ℕ) → length is ≡ length os → k < length os
    → get_or (offset_by os is) k 0 ≡ get_or is k 0 + get_or os k 0
get_or-offset_by [] is k same within = absurd (omega arith)
get_or-offset_by (o ∷ os) [] k same within = absurd (omega arith)
get_or-offset_by (o ∷ os) (i ∷ is) zero same within = refl
get_or-offset_by (o ∷ os) (i ∷ is) (suc k) same within = get_or-offset_by os is k (omega arith) (omega arith)

pub get_or-scaled : (ss is : List ℕ) (k : ℕ) → length is ≡ length ss → k < length ss
    → get_or (scaled ss is) k 0 ≡ get_or is k 0 * get_or ss k 0
get_or-scaled [] is k same within = absurd (omega arith)
get_or-scaled (s ∷ ss) [] k same within = absurd (omega arith)
get_or-scaled (s ∷ ss) (i ∷ is) zero same within = refl
get_or-scaled (s ∷ ss) (i ∷ is) (suc k) same within = get_or-scaled ss is k (omega arith) (omega arith)

pub length-strided_dims : (ds ss : List ℕ) → length ss ≡ length ds → length (strided_dims ds ss) ≡ length ds
length-strided_dims [] ss same = refl
length-strided_dims (d ∷ ds) [] same = absurd (omega arith)
length-strided_dims (d ∷ ds) (s ∷ ss) same = omega (arith, length-strided_dims ds ss (omega arith))

pub length-remove : (ds : List ℕ) (k : ℕ) → k < length ds → length (remove ds k) + 1 ≡ length ds
length-remove [] k within = absurd (omega arith)
length-remove (d ∷ ds) zero within = omega arith
length-remove (d ∷ ds) (suc k) within = omega (arith, length-remove ds k (omega arith))

-- a broadcast keeps the rank
pub length-repeated_dims : (ds cs : List ℕ) → length cs ≡ length ds → length (repeated_dims ds cs) ≡ length ds
length-repeated_dims [] cs same = refl
length-repeated_dims (d ∷ ds) [] same = absurd (omega arith)
length-repeated_dims (d ∷ ds) (c ∷ cs) same = omega (arith, length-repeated_dims ds cs (omega arith))

-- where a movement reads something, each dimension of its operand has an index
pub dimension-some : (m : Movement) (ds es is : List ℕ) (k : ℕ) → moved_dims widest m ds ≡ Ok es → IsIndexOf es is → k < length ds → 0 < get_or ds k 0
dimension-some m ds es is k dims index within =
    let below = get_or-IsIndexOf ds (moved m ds is) k (IsIndexOf-moved m ds es is dims index) within in
    omega (arith, below)

-- an index list of the result has as many indices
pub length-moved : (m : Movement) (ds es rs is : List ℕ) → moved_dims widest m ds ≡ Ok es → moved_dims widest m ds ≡ Ok rs → IsIndexOf es is → length is ≡ length rs
length-moved m ds es rs is dims known index =
    length-IsIndexOf es is index ∙ ap length (moved_dims-unique m ds es rs dims known)

-- a dimension of legal dims is small
pub get_or-legal : (ds : List ℕ) (k : ℕ) → IsLegal ds → k < length ds → get_or ds k 0 ≤ most_elements
get_or-legal ds k legal within =
    let few : 1 * bulk_of (drop k ds) ≤ most_elements = omega (arith, bulk_of-drop-le ds k, legal.elements) in
    omega (arith, mul-le-bulk_of 1 most_elements ds k within few)
