-- Products of dims, taken one dimension after another.
use Rattle.std.proofs.Common.{◌≡◌, ℕ, zero, suc, ◌+◌, ◌*◌, ◌/◌, ◌<◌, ◌≤◌, max, List, [], ◌∷◌}
use Rattle.std.proofs.Common.{length, get_or, drop, take, refl, arith, add-one}
use Rattle.std.proofs.Math.Seq.{drop-cons}
use Rattle.std.proofs.Math.Nat.{mul-le-mul_left, mul-le-mul, le-div_iff_mul-le, lt_of_not-le}
use Rattle.tensor_shape.specs.Index.{size_of, strides_from}
use Rattle.tensor_shape.specs.Legal.{bulk_of}

-- no bulk is 0
pub one-le-bulk_of : (ds : List ℕ) → 1 ≤ bulk_of ds
one-le-bulk_of [] = omega arith
one-le-bulk_of (d ∷ ds) =
    let factor : 1 ≤ max 1 d = omega arith in
    mul-le-mul factor (one-le-bulk_of ds)

-- dims have at most as many elements as their bulk
pub size_of-le-bulk_of : (ds : List ℕ) → size_of ds ≤ bulk_of ds
size_of-le-bulk_of [] = omega arith
size_of-le-bulk_of (d ∷ ds) =
    let factor : d ≤ max 1 d = omega arith in
    mul-le-mul factor (size_of-le-bulk_of ds)

-- one dimension of what is left
pub bulk_of-drop : (ds : List ℕ) (i : ℕ) → i < length ds → bulk_of (drop i ds) ≡ max 1 (get_or ds i 0) * bulk_of (drop (i + 1) ds)
bulk_of-drop ds i h = rw (add-one, drop-cons ds i 0 h) refl

pub size_of-drop : (ds : List ℕ) (i : ℕ) → i < length ds → size_of (drop i ds) ≡ get_or ds i 0 * size_of (drop (i + 1) ds)
size_of-drop ds i h = rw (add-one, drop-cons ds i 0 h) refl

-- what is left has no greater bulk
pub bulk_of-drop-le : (ds : List ℕ) (i : ℕ) → bulk_of (drop i ds) ≤ bulk_of ds
bulk_of-drop-le ds zero = omega arith
bulk_of-drop-le [] (suc i) = omega arith
bulk_of-drop-le (d ∷ ds) (suc i) =
    let factor : 1 ≤ max 1 d = omega arith in
    omega (arith, bulk_of-drop-le ds i, mul-le-mul {n₁ = 1} factor (bulk_of-drop-le ds 0))

-- what comes first has no greater bulk
pub bulk_of-take-le : (ds : List ℕ) (i : ℕ) → bulk_of (take i ds) ≤ bulk_of ds
bulk_of-take-le ds zero = one-le-bulk_of ds
bulk_of-take-le [] (suc i) = omega arith
bulk_of-take-le (d ∷ ds) (suc i) = mul-le-mul_left (max 1 d) (bulk_of-take-le ds i)

-- one more dimension keeps a product within the limit
pub mul-le-bulk_of : (product limit : ℕ) (ds : List ℕ) (i : ℕ) → i < length ds
    → product * bulk_of (drop i ds) ≤ limit → product * get_or ds i 0 ≤ limit
mul-le-bulk_of product limit ds i below within =
    let factor : get_or ds i 0 ≤ max 1 (get_or ds i 0) = omega arith in
    let whole : get_or ds i 0 * 1 ≤ max 1 (get_or ds i 0) * bulk_of (drop (i + 1) ds) =
    mul-le-mul factor (one-le-bulk_of (drop (i + 1) ds)) in
    let held : get_or ds i 0 ≤ bulk_of (drop i ds) = rw (bulk_of-drop ds i below) (omega (arith, whole)) in
    omega (arith, mul-le-mul_left product held, within)

-- a factor past the quotient takes the product past the limit
pub limit-below-mul : (limit product factor rest : ℕ) → 1 ≤ product → 1 ≤ rest
    → limit / product < factor → limit < product * (factor * rest)
limit-below-mul limit product factor rest some left past =
    let over : factor * product ≤ limit → ⊥ =
    λ h. let within : factor ≤ limit / product = (le-div_iff_mul-le {k = product} {x = factor} {y = limit} some).1 h in omega arith in
    let whole : factor * 1 ≤ factor * rest = mul-le-mul_left factor left in
    let all : product * (factor * 1) ≤ product * (factor * rest) = mul-le-mul_left product whole in
    omega (arith, lt_of_not-le over)

-- the strides of what is left
pub strides_from-drop : (stride : ℕ) (ds : List ℕ) (i : ℕ) → i < length ds
    → strides_from stride (drop i ds) ≡ stride ∷ strides_from (stride * get_or ds i 0) (drop (i + 1) ds)
strides_from-drop stride ds i h = rw (add-one, drop-cons ds i 0 h) refl
