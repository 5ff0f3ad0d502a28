-- Places by Horner's rule, and within the size.
use Rattle.std.proofs.Common.{◌≡◌, ℕ, zero, suc, ◌+◌, ◌*◌, ◌/◌, ◌%◌, ◌<◌, List, [], ◌∷◌, length}
use Rattle.std.proofs.Common.{get_or, drop, refl, ap, ◌∙◌, arith, add-one}
use Rattle.std.proofs.Math.Seq.{drop-cons}
use Rattle.std.proofs.Math.Nat.{mul-le-mul_left, mod-lt, mod-add-div, mod-eq_of_lt, div-eq_of_lt}
use Rattle.std.proofs.Math.Nat.{div-lt_iff_lt-mul, add-mul-mod_self_left, add-mul-div_left}
use Rattle.tensor_shape.specs.Index.{size_of, IsIndexOf, place_by, place, index_of}
use Rattle.tensor_shape.specs.Legal.{bulk_of}
use Rattle.tensor_shape.proofs.Sizes.{size_of-le-bulk_of, bulk_of-drop-le}

-- a common factor of the strides stands before the sum
pub place_by-scaled : (s t : ℕ) (ds is : List ℕ) → place_by (s * t) ds is ≡ s * place_by t ds is
place_by-scaled s t [] is = grind arith
place_by-scaled s t (d ∷ ds) [] = grind arith
place_by-scaled s t (d ∷ ds) (i ∷ is) = grind (arith, place_by-scaled s (t * d) ds is)

-- Horner's rule
pub place-cons : (d i : ℕ) (ds is : List ℕ) → place (d ∷ ds) (i ∷ is) ≡ i + d * place ds is
place-cons d i ds is = grind (arith, place_by-scaled d 1 ds is)

-- an index list has one index an axis
pub length-IsIndexOf : (ds is : List ℕ) → IsIndexOf ds is → length is ≡ length ds
length-IsIndexOf [] [] h = refl
length-IsIndexOf [] (i ∷ is) h = absurd h
length-IsIndexOf (d ∷ ds) [] h = absurd h
length-IsIndexOf (d ∷ ds) (i ∷ is) h = omega (arith, length-IsIndexOf ds is h.1)

-- the place of an index list is that of an element
pub place-below-size_of : (ds is : List ℕ) → IsIndexOf ds is → place ds is < size_of ds
place-below-size_of [] [] h = omega arith
place-below-size_of [] (i ∷ is) h = absurd h
place-below-size_of (d ∷ ds) [] h = absurd h
place-below-size_of (d ∷ ds) (i ∷ is) h =
    rw (place-cons d i ds is)
    (omega (arith, h.0, mul-le-mul_left d (place-below-size_of ds is h.1)))

-- what is left of an index list is an index list of what is left of the dims
pub IsIndexOf-drop : (ds is : List ℕ) (i : ℕ) → IsIndexOf ds is → IsIndexOf (drop i ds) (drop i is)
IsIndexOf-drop ds is zero h = h
IsIndexOf-drop [] [] (suc i) h = h
IsIndexOf-drop [] (x ∷ is) (suc i) h = absurd h
IsIndexOf-drop (d ∷ ds) [] (suc i) h = absurd h
IsIndexOf-drop (d ∷ ds) (x ∷ is) (suc i) h = IsIndexOf-drop ds is i h.1

module _ (ds is : List ℕ) (i : ℕ) (index : IsIndexOf ds is) (below : i < length ds) where
  -- one more axis by Horner's rule
  pub place-drop : place (drop i ds) (drop i is) ≡ place (drop (i + 1) ds) (drop (i + 1) is) * get_or ds i 0 + get_or is i 0
  place-drop =
      let within : i < length is = omega (arith, length-IsIndexOf ds is index) in
      rw (add-one, drop-cons ds i 0 below, drop-cons is i 0 within, place-cons (get_or ds i 0) (get_or is i 0) (drop (suc i) ds) (drop (suc i) is))
      (omega arith)

  -- and it is below the whole size
  pub place-drop-below : place (drop (i + 1) ds) (drop (i + 1) is) * get_or ds i 0 + get_or is i 0 < bulk_of ds
  place-drop-below =
      omega (
        arith,
        place-drop,
        place-below-size_of (drop i ds) (drop i is) (IsIndexOf-drop ds is i index),
        size_of-le-bulk_of (drop i ds),
        bulk_of-drop-le ds i,
      )

-- a place below a product has a first factor that is not 0, and its quotient is below the second
pub div-below : (d n p : ℕ) → p < d * n → (0 < d) × (p / d < n)
div-below zero n p h = absurd (omega arith)
div-below (suc d) n p h = (omega arith, (div-lt_iff_lt-mul {k = suc d} {x = p} {y = n} (omega arith)).1 (omega arith))

-- a place has an index list
pub IsIndexOf-index_of : (ds : List ℕ) (p : ℕ) → p < size_of ds → IsIndexOf ds (index_of ds p)
IsIndexOf-index_of [] p h = tt
IsIndexOf-index_of (d ∷ ds) p h =
    let b = div-below d (size_of ds) p h in
    (mod-lt p b.0, IsIndexOf-index_of ds (p / d) b.1)

-- which is that of the place
pub place-index_of : (ds : List ℕ) (p : ℕ) → p < size_of ds → place ds (index_of ds p) ≡ p
place-index_of [] p h = omega arith
place-index_of (d ∷ ds) p h =
    let b = div-below d (size_of ds) p h in
    rw (place-cons d (p % d) ds (index_of ds (p / d)), place-index_of ds (p / d) b.1)
    (mod-add-div p d)

-- an index list is that of its place
pub index_of-place : (ds is : List ℕ) → IsIndexOf ds is → index_of ds (place ds is) ≡ is
index_of-place [] [] h = refl
index_of-place [] (i ∷ is) h = absurd h
index_of-place (d ∷ ds) [] h = absurd h
index_of-place (d ∷ ds) (i ∷ is) h =
    let first : (i + d * place ds is) % d ≡ i = add-mul-mod_self_left i d (place ds is) ∙ mod-eq_of_lt h.0 in
    let some : 0 < d = omega (arith, h.0) in
    let rest : (i + d * place ds is) / d ≡ place ds is =
    add-mul-div_left i (place ds is) some ∙ ap (λ q. q + place ds is) (div-eq_of_lt h.0) ∙ omega arith in
    rw (place-cons d i ds is, first, rest, index_of-place ds is h.1) refl
