-- Products by halves.
use Rattle.std.proofs.Common.{◌≡◌, ℕ, ◌+◌, ◌*◌, ◌/◌, ◌%◌, ◌^◌, ◌<◌, ℤ, pos, ◌+ℤ◌, ◌*ℤ◌, ap, sym}
use Rattle.std.proofs.Common.{◌∙◌, arith, FitsSigned, to_z, of_z}
use Rattle.std.proofs.lemmas.Int.{to_z-of_z, int_wrap-add_left, int_wrap-add_right}
use Rattle.std.proofs.lemmas.Int.{int_wrap-mul_left, int_wrap-mul_right, ints}
use Rattle.std.specs.Int.{w64, int_wrap}
use Rattle.tensor_shape.specs.Wrap.{wrap}
use Rattle.tensor_dots.specs.Halves.{low_half, high_half}

-- what is the same modulo 2^64 wraps to the same
pub wrap-same : (m n : ℕ) → m % 2 ^ 64 ≡ n % 2 ^ 64 → wrap (pos m) ≡ wrap (pos n)
unfolding int_wrap
wrap-same m n e = ap (λ k. to_z w64 k) e

pub bits_below : (z : ℤ) → FitsSigned w64 z → of_z w64 z < 2 ^ 64
bits_below z fits = omega (arith, ints)

-- a number is the wrap of its bits
pub wrap-bits : (z : ℤ) → FitsSigned w64 z → wrap (pos (of_z w64 z)) ≡ z
unfolding int_wrap
wrap-bits z fits =
    let below : of_z w64 z < 2 ^ 64 = bits_below z fits in
    let whole : of_z w64 z % 2 ^ 64 ≡ of_z w64 z = omega arith in
    ap (λ k. to_z w64 k) whole ∙ to_z-of_z w64 z fits

-- a sum with a natural number, by bits
pub wrap-onto : (s : ℤ) (n : ℕ) → FitsSigned w64 s → wrap (s +ℤ pos n) ≡ wrap (pos (of_z w64 s + n))
wrap-onto s n fits =
    ap (λ v. wrap (v +ℤ pos n)) (sym (wrap-bits s fits))
    ∙ int_wrap-add_left w64 (pos (of_z w64 s)) (pos n)

-- a product, by bits
pub wrap-times : (x y : ℤ) → FitsSigned w64 x → FitsSigned w64 y
    → wrap (x *ℤ y) ≡ wrap (pos (of_z w64 x * of_z w64 y))
wrap-times x y fits_x fits_y =
    ap (λ v. wrap (v *ℤ y)) (sym (wrap-bits x fits_x))
    ∙ int_wrap-mul_left w64 (pos (of_z w64 x)) y
    ∙ ap (λ v. wrap (pos (of_z w64 x) *ℤ v)) (sym (wrap-bits y fits_y))
    ∙ int_wrap-mul_right w64 (pos (of_z w64 x)) (pos (of_z w64 y))

-- a product of two numbers in halves
pub product-parts : (l h l' h' : ℕ) → (l + 2 ^ 32 * h) * (l' + 2 ^ 32 * h')
    ≡ l * l' + 2 ^ 32 * (l * h' + h * l') + 2 ^ 64 * (h * h')
product-parts l h l' h' = omega arith

pub product-halves : (x y : ℕ) → x * y ≡ x % 2 ^ 32 * (y % 2 ^ 32)
    + 2 ^ 32 * (x % 2 ^ 32 * (y / 2 ^ 32) + x / 2 ^ 32 * (y % 2 ^ 32))
    + 2 ^ 64 * (x / 2 ^ 32 * (y / 2 ^ 32))
product-halves x y =
    let is_x : x ≡ x % 2 ^ 32 + 2 ^ 32 * (x / 2 ^ 32) = omega arith in
    let is_y : y ≡ y % 2 ^ 32 + 2 ^ 32 * (y / 2 ^ 32) = omega arith in
    ap (λ k. k * y) is_x ∙ ap (λ k. (x % 2 ^ 32 + 2 ^ 32 * (x / 2 ^ 32)) * k) is_y
    ∙ product-parts (x % 2 ^ 32) (x / 2 ^ 32) (y % 2 ^ 32) (y / 2 ^ 32)

-- only the low 32 bits of a multiple of 2^32 matter
crossed-mod : (s c d p u v w : ℕ)
    → (s + p + 2 ^ 32 * ((c + u) % 2 ^ 32 + (d + v) % 2 ^ 32)) % 2 ^ 64
    ≡ (s + 2 ^ 32 * (c + d) + (p + 2 ^ 32 * (u + v) + 2 ^ 64 * w)) % 2 ^ 64
crossed-mod s c d p u v w = omega arith

-- THE LEMMA ON HALVES: one product more in a lane and the two words of its crossed halves
pub halves-next : (s x y : ℤ) (c d : ℕ) → FitsSigned w64 s → FitsSigned w64 x → FitsSigned w64 y
    → wrap (wrap (s +ℤ pos (low_half x * low_half y))
    +ℤ pos (2 ^ 32 * ((c + low_half x * high_half y) % 2 ^ 32 + (d + high_half x * low_half y) % 2 ^ 32)))
    ≡ wrap (wrap (s +ℤ pos (2 ^ 32 * (c + d))) +ℤ (x *ℤ y))
halves-next s x y c d fits_s fits_x fits_y =
    let S = of_z w64 s in
    let X = of_z w64 x in
    let Y = of_z w64 y in
    let p = low_half x * low_half y in
    let u = low_half x * high_half y in
    let v = high_half x * low_half y in
    let C = 2 ^ 32 * (c + d) in
    let C' = 2 ^ 32 * ((c + u) % 2 ^ 32 + (d + v) % 2 ^ 32) in
    let left : wrap (wrap (s +ℤ pos p) +ℤ pos C') ≡ wrap (pos (S + p + C')) =
    ap (λ k. wrap (k +ℤ pos C')) (wrap-onto s p fits_s) ∙ int_wrap-add_left w64 (pos (S + p)) (pos C') in
    let right : wrap (wrap (s +ℤ pos C) +ℤ (x *ℤ y)) ≡ wrap (pos (S + C + X * Y)) =
    ap (λ k. wrap (k +ℤ (x *ℤ y))) (wrap-onto s C fits_s)
    ∙ int_wrap-add_left w64 (pos (S + C)) (x *ℤ y)
    ∙ sym (int_wrap-add_right w64 (pos (S + C)) (x *ℤ y))
    ∙ ap (λ k. wrap (pos (S + C) +ℤ k)) (wrap-times x y fits_x fits_y)
    ∙ int_wrap-add_right w64 (pos (S + C)) (pos (X * Y)) in
    left
    ∙ wrap-same _ _ (crossed-mod S c d p u v (X / 2 ^ 32 * (Y / 2 ^ 32))
    ∙ ap (λ k. (S + C + k) % 2 ^ 64) (sym (product-halves X Y)))
    ∙ sym right
