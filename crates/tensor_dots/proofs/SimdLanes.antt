-- Vectors of four lanes. A local vector is known by its bits, a parameter or a result by its
-- numbers.
use Rattle.std.proofs.Common.{◌≡◌, ℕ, zero, suc, ◌+◌, ◌*◌, ◌%◌, ◌^◌, ◌<◌, ℤ, ◌+ℤ◌, ◌*ℤ◌, pos}
use Rattle.std.proofs.Common.{List, [], ◌∷◌}
use Rattle.std.proofs.Common.{length, map, FitsSigned, to_z, of_z, get_or, refl, ap, sym, subst}
use Rattle.std.proofs.Common.{◌∙◌, rules, arith}
use Rattle.std.specs.Int.{w32, w64}
use Rattle.std.proofs.lemmas.List.{get_or-map, length-map}
use Rattle.std.proofs.lemmas.Int.{wraps, wrapping_add-bits, to_z-of_z, SFits-int_wrap}
use Rattle.std.proofs.lemmas.Simd.{get_or-zip2, length-zip2}
use Rattle.std.proofs.Math.Facts.{sfits_widen}
use lib.Lanes.{zip2}
use Rattle.tensor_values.specs.Values.{value_in}
use Rattle.tensor_shape.specs.Wrap.{wrap}
use Rattle.tensor_dots.specs.Lanes.{AreLanes}

-- a product and a sum of bits, read as a number
pub bits-product : (s x y : ℤ) → FitsSigned w64 s → FitsSigned w64 x → FitsSigned w64 y
    → to_z w64 ((of_z w64 s + (of_z w64 x * of_z w64 y) % 2 ^ 64) % 2 ^ 64) ≡ wrap (s +ℤ (x *ℤ y))
bits-product s x y fits_s fits_x fits_y = search (rules, wraps, wrapping_add-bits w64)

-- a wrapped number is in the `i64` range
pub wrapped_fits : (r z : ℤ) → r ≡ wrap z → FitsSigned w64 r
wrapped_fits r z is = subst (FitsSigned w64) (sym is) (SFits-int_wrap w64 z)

-- from numbers to bits and back
pub value_in-bits : (xs : List ℤ) (r : ℕ) → r < length xs → FitsSigned w64 (value_in xs r)
    → value_in (map (to_z w64) (map (of_z w64) xs)) r ≡ value_in xs r
value_in-bits xs r inside fits =
    get_or-map (to_z w64) (map (of_z w64) xs) r 0 (pos 0) (simp length-map inside)
    ∙ ap (to_z w64) (get_or-map (of_z w64) xs r (pos 0) 0 inside)
    ∙ to_z-of_z w64 (value_in xs r) fits

pub value_in-lanes : (xs : List ℤ) → AreLanes xs → (r : ℕ) → r < 4
    → value_in (map (to_z w64) (map (of_z w64) xs)) r ≡ value_in xs r
value_in-lanes xs lanes r h = value_in-bits xs r (omega (arith, lanes.0)) (lanes.1 r h)

pub lanes-bits : (xs : List ℤ) → AreLanes xs → AreLanes (map (to_z w64) (map (of_z w64) xs))
lanes-bits xs lanes = (
  simp length-map (lanes.0),
  λ r h. subst (FitsSigned w64) (sym (value_in-lanes xs lanes r h))
      (lanes.1 r h),
)

-- one operation after another, lane by lane
pub length-lanes : (f g : ℕ → ℕ → ℕ) (s x y : List ℤ) → length s ≡ 4 → length x ≡ 4 → length y ≡ 4
    → length (zip2 f (map (of_z w64) s) (zip2 g (map (of_z w64) x) (map (of_z w64) y))) ≡ 4
length-lanes f g s x y hs hx hy =
    let ls : length (map (of_z w64) s) ≡ 4 = simp length-map hs in
    let lx : length (map (of_z w64) x) ≡ 4 = simp length-map hx in
    let ly : length (map (of_z w64) y) ≡ 4 = simp length-map hy in
    let inner : length (zip2 g (map (of_z w64) x) (map (of_z w64) y)) ≡ 4 = length-zip2 g _ _ (lx
    ∙ sym ly) ∙ lx in
    length-zip2 f _ _ (ls ∙ sym inner) ∙ ls

pub value_in-zipped : (f g : ℕ → ℕ → ℕ) (s x y : List ℤ) → length s ≡ 4 → length x ≡ 4
    → length y ≡ 4 → (r : ℕ) → r < 4
    → value_in (map (to_z w64) (zip2 f (map (of_z w64) s) (zip2 g (map (of_z w64) x) (map
    (of_z w64) y)))) r
    ≡ to_z w64 (f (of_z w64 (value_in s r)) (g (of_z w64 (value_in x r)) (of_z w64 (value_in y r))))
value_in-zipped f g s x y hs hx hy r h =
    let ls : length (map (of_z w64) s) ≡ 4 = simp length-map hs in
    let lx : length (map (of_z w64) x) ≡ 4 = simp length-map hx in
    let ly : length (map (of_z w64) y) ≡ 4 = simp length-map hy in
    let inner : length (zip2 g (map (of_z w64) x) (map (of_z w64) y)) ≡ 4 = length-zip2 g _ _ (lx
    ∙ sym ly) ∙ lx in
    let outer = length-lanes f g s x y hs hx hy in
    let is_s : get_or (map (of_z w64) s) r 0
    ≡ of_z w64 (value_in s r) = get_or-map (of_z w64) s r (pos 0) 0 (omega arith) in
    let is_x : get_or (map (of_z w64) x) r 0
    ≡ of_z w64 (value_in x r) = get_or-map (of_z w64) x r (pos 0) 0 (omega arith) in
    let is_y : get_or (map (of_z w64) y) r 0
    ≡ of_z w64 (value_in y r) = get_or-map (of_z w64) y r (pos 0) 0 (omega arith) in
    let is_xy = get_or-zip2 g (map (of_z w64) x) (map (of_z w64) y) r 0 0 0 (omega arith)
    (omega arith) in
    get_or-map (to_z w64) _ r 0 (pos 0) (omega (arith, outer))
    ∙ ap (to_z w64)
    (get_or-zip2 f (map (of_z w64) s) (zip2 g (map (of_z w64) x) (map (of_z w64) y)) r 0 0 0
    (omega arith) (omega arith)
    ∙ cc (is_s, is_x, is_y, is_xy))

-- from 32 bits to 64
pub wide : (z : ℤ) → FitsSigned w32 z → FitsSigned w64 z
wide z fits = sfits_widen tt fits

pub widened : (z : ℤ) → FitsSigned w32 z → to_z w64 (of_z w64 (to_z w32 (of_z w32 z))) ≡ z
widened z fits = ap (λ v. to_z w64 (of_z w64 v)) (to_z-of_z w32 z fits)
    ∙ to_z-of_z w64 z (wide z fits)

-- one number in eight lanes
pub value_in-spread : (v : ℤ) (r : ℕ) → r < 4
    → value_in (v ∷ v ∷ v ∷ v ∷ v ∷ v ∷ v ∷ v ∷ []) (2 * r) ≡ v
value_in-spread v zero h = refl
value_in-spread v (suc zero) h = refl
value_in-spread v (suc (suc zero)) h = refl
value_in-spread v (suc (suc (suc zero))) h = refl
value_in-spread v (suc (suc (suc (suc r)))) h = absurd (omega arith)
