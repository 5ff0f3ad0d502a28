-- Shifts as products and quotients by powers of two, and the places of a count.
use Rattle.std.proofs.Common.{◌≡◌, ◌∙◌, sym, ap, refl, ℕ, ◌*◌, ◌%◌, ◌^◌, ◌<◌, arith}
use Rattle.std.proofs.Common.{ℤ, pos, negsuc, ◌*ℤ◌, true, false}
use Rattle.std.specs.Prelude.{int_le, int_lt}
use Rattle.std.proofs.Math.IntN.{*ℤ-zero}
use Rattle.std.proofs.Math.Nat.{mod-eq_of_lt}
use Rattle.std.proofs.Math.Pow.{pow-lt}
use Rattle.std.proofs.lemmas.Int.{ints, to_z-of_z, int_wrap-mul_right, wrapping_mul-bits}
use Rattle.std.specs.Int.{w64, int_wrap}
use mir.Val.{SFits, of_z, to_z}
use Rattle.tensor_shape.specs.Wrap.{wrap}
use Rattle.tensor_values.specs.Division.{places_of, shifted_left}

-- a count of 0 to 63 is the number of places
pub places_of-within : (count : ℤ) → int_le (pos 0) count ≡ true → int_lt count (pos 64) ≡ true
    → (places_of count ≡ of_z w64 count) × (of_z w64 count < 64)
places_of-within (pos n) low few = (grind (arith, ints, few), grind (arith, ints, few))
places_of-within (negsuc n) low few = absurd (grind (arith, ints, low))

-- and others are all of them
pub places_of-below : (count : ℤ) → int_le (pos 0) count ≡ false → places_of count ≡ 64
places_of-below (pos n) low = absurd (grind (arith, ints, low))
places_of-below (negsuc n) low = refl

pub places_of-above : (count : ℤ) → int_lt count (pos 64) ≡ false → places_of count ≡ 64
places_of-above (pos n) many = grind (arith, ints, many)
places_of-above (negsuc n) many = refl

-- a number of 64 bits as one of the range
signed : (n : ℕ) → n < 2 ^ 64 → to_z w64 n ≡ int_wrap w64 (pos n)
unfolding int_wrap
signed n below = ap (to_z w64) (sym (mod-eq_of_lt below))

-- bits that are shifted are a product
pub bits_shifted : (x : ℤ) (k : ℕ) → SFits w64 x → k < 64
    → to_z w64 (of_z w64 x * 2 ^ k % 2 ^ 64) ≡ int_wrap w64 (x *ℤ pos (2 ^ k))
bits_shifted x k fits few =
    let room : 2 ^ k < 2 ^ 64 = pow-lt few in
    let bits : of_z w64 x < 2 ^ 64 = omega (arith, ints, fits.sfits) in
    wrapping_mul-bits w64 (of_z w64 x) (2 ^ k) bits room
    ∙ ap (λ (z : ℤ). int_wrap w64 (z *ℤ to_z w64 (2 ^ k))) (to_z-of_z w64 x fits)
    ∙ ap (λ (z : ℤ). int_wrap w64 (x *ℤ z)) (signed (2 ^ k) room)
    ∙ int_wrap-mul_right w64 x (pos (2 ^ k))

-- where all places are shifted out, 0 is left
none_left : (x : ℤ) → int_wrap w64 (x *ℤ int_wrap w64 (pos (2 ^ 64))) ≡ pos 0
unfolding int_wrap
none_left x = ap (int_wrap w64) (*ℤ-zero x)

pub shifted_left-out : (x count : ℤ) → places_of count ≡ 64 → pos 0 ≡ wrap (shifted_left x count)
shifted_left-out x count all =
    sym (ap (λ (k : ℕ). int_wrap w64 (x *ℤ pos (2 ^ k))) all
    ∙ sym (int_wrap-mul_right w64 x (pos (2 ^ 64)))
    ∙ none_left x)
