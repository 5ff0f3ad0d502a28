-- The quotient rounded down, and what it leaves, by those that are rounded toward 0.
use Rattle.std.proofs.Common.{◌≡◌, ◌∙◌, ap, subst, ℕ, zero, suc, ◌+◌, ◌-◌, ◌*◌, ◌/◌, ◌%◌, ◌^◌}
use Rattle.std.proofs.Common.{◌<◌, ◌≤◌, arith}
use Rattle.std.proofs.Common.{refl, ◌≢◌, Bool, true, false, ℤ, pos, negsuc, neg_ℤ, ◌+ℤ◌, ◌-ℤ◌, ◌*ℤ◌}
use Rattle.std.specs.Prelude.{int_div, int_rem}
use Rattle.std.specs.Int.{w64}
use Rattle.std.specs.Int.Signed.{mag, mag_rem}
use mir.Val.{SFits, of_z, to_z}
use Rattle.std.proofs.Math.IntN.{sub_ℕ, pred_ℤ-*ℤ, -ℤ_one}
use Rattle.std.proofs.Math.Nat.{div-le_self, div-lt_self, div-one, mod-lt, zero-div, zero-mod}
use Rattle.std.proofs.lemmas.Nat.{div-add-mod', div-mul-add}
use Rattle.std.proofs.lemmas.Int.{ints, quot-rem, rem_is, to_z-of_z}
use Rattle.std.proofs.lemmas.Bool.Decides.{Decides-int_eq}
use Rattle.std.specs.Prelude.{if◌then◌else◌, cond, ltb}
use Rattle.std.specs.Bool.{Decides}
use Rattle.std.specs.Ordering.{int_eq}
use Rattle.tensor_values.specs.Division.{floor_over, floor_quotient, remainder}
use Rattle.tensor_values.specs.private.Rounding.{is_rounded_up}

-- the number below one that something of is left has the same quotient, below another the lesser
above_a_multiple : (a n : ℕ) → 0 < suc a % suc n → a / suc n ≡ suc a / suc n
above_a_multiple a n some =
    let parts : suc a / suc n * suc n + suc a % suc n ≡ suc a = div-add-mod' (suc a) (suc n) in
    let is : a ≡ suc a / suc n * suc n + (suc a % suc n - 1) = omega (arith, parts, some) in
    let below : suc a % suc n - 1 < suc n = omega (arith, mod-lt (suc a) {m = suc n} (omega arith)) in
    ap (λ (k : ℕ). k / suc n) is ∙ div-mul-add (suc a / suc n) (suc n) (suc a % suc n - 1) below

at_a_multiple : (a n q : ℕ) → suc a ≡ q * suc n → suc (a / suc n) ≡ q
at_a_multiple a n zero is = absurd (omega (arith, is))
at_a_multiple a n (suc q) is =
    let here : a ≡ q * suc n + n = omega (arith, is) in
    ap suc (ap (λ (k : ℕ). k / suc n) here ∙ div-mul-add q (suc n) n (omega arith))

-- a number below 0, -(a + 1), by one above it
rounded_below : (a n : ℕ) → 0 < suc a % suc n
    → negsuc (a / suc n) ≡ neg_ℤ (pos (suc a / suc n)) -ℤ pos 1
rounded_below a n some =
    let q : a / suc n ≡ suc a / suc n = above_a_multiple a n some in
    omega (arith, ints, q)

exact_below : (a n : ℕ) → suc a % suc n ≡ 0 → negsuc (a / suc n) ≡ neg_ℤ (pos (suc a / suc n))
exact_below a n none =
    let parts : suc a / suc n * suc n + suc a % suc n ≡ suc a = div-add-mod' (suc a) (suc n) in
    let q : suc (a / suc n) ≡ suc a / suc n = at_a_multiple a n (suc a / suc n) (omega (arith, parts, none)) in
    omega (arith, ints, q)

-- one less than the quotient rounded toward 0, where that is rounded up
pub floor_quotient-rounded_up : (x y : ℤ) → y ≢ pos 0 → is_rounded_up (int_rem x y) y ≡ true
    → floor_quotient x y ≡ int_div x y -ℤ pos 1
floor_quotient-rounded_up x (pos zero) some up = absurd (some refl)
floor_quotient-rounded_up (pos a) (pos (suc n)) some up = absurd (grind (arith, ints, up))
floor_quotient-rounded_up (pos zero) (negsuc n) some up =
    absurd (grind (arith, ints, up, zero-mod (suc n)))
floor_quotient-rounded_up (pos (suc a)) (negsuc n) some up =
    rounded_below a n (grind (arith, ints, up))
floor_quotient-rounded_up (negsuc a) (pos (suc n)) some up =
    rounded_below a n (grind (arith, ints, up))
floor_quotient-rounded_up (negsuc a) (negsuc n) some up = absurd (grind (arith, ints, up))

-- and that quotient itself, where it isn't
pub floor_quotient-kept : (x y : ℤ) → y ≢ pos 0 → is_rounded_up (int_rem x y) y ≡ false
    → floor_quotient x y ≡ int_div x y
floor_quotient-kept x (pos zero) some down = absurd (some refl)
floor_quotient-kept (pos a) (pos (suc n)) some down = refl
floor_quotient-kept (pos zero) (negsuc n) some down =
    let q : 0 / suc n ≡ 0 = zero-div (suc n) in omega (arith, ints, q)
floor_quotient-kept (pos (suc a)) (negsuc n) some down =
    exact_below a n (grind (arith, ints, down))
floor_quotient-kept (negsuc a) (pos (suc n)) some down =
    exact_below a n (grind (arith, ints, down))
floor_quotient-kept (negsuc a) (negsuc n) some down = refl

-- by -1 it is the number negated
floor_over-one : (x : ℤ) → floor_over x 1 ≡ x
floor_over-one (pos a) = ap pos (div-one a)
floor_over-one (negsuc a) = ap negsuc (div-one a)

pub floor_quotient-minus_one : (x y : ℤ) → y ≡ negsuc 0 → floor_quotient x y ≡ neg_ℤ x
floor_quotient-minus_one x y is =
    ap (floor_quotient x) is ∙ floor_over-one (neg_ℤ x)

-- numbers below 0 that are of the range
fits_under : (a k : ℕ) → a < 2 ^ 63 → k ≤ a → SFits w64 (neg_ℤ (pos k))
fits_under a zero below under = record { sfits = omega arith }
fits_under a (suc k) below under = record { sfits = omega (arith, below, under) }

fits_below : (a k : ℕ) → a < 2 ^ 63 → k ≤ suc a → SFits w64 (neg_ℤ (pos k))
fits_below a zero below under = record { sfits = omega arith }
fits_below a (suc k) below under = record { sfits = omega (arith, below, under) }

-- a quotient rounded toward 0 is of the range, but for the least number by -1
pub quotient_fits : (x y : ℤ) → SFits w64 x → y ≢ negsuc 0 → SFits w64 (int_div x y)
quotient_fits (pos a) (pos b) fits other =
    record { sfits = omega (arith, fits.sfits, div-le_self a b) }
quotient_fits (pos a) (negsuc b) fits other =
    fits_under a (a / suc b) fits.sfits (div-le_self a (suc b))
quotient_fits (negsuc a) (pos b) fits other =
    fits_below a (suc a / b) fits.sfits (div-le_self (suc a) b)
quotient_fits (negsuc a) (negsuc zero) fits other = absurd (other refl)
quotient_fits (negsuc a) (negsuc (suc b)) fits other =
    record {
      sfits = omega (
        arith,
        fits.sfits,
        div-lt_self {n = suc a} {k = suc (suc b)} (omega arith) (omega arith),
      );
    }

-- and so is one that is rounded down
floor_over_fits : (x : ℤ) (n : ℕ) → SFits w64 x → SFits w64 (floor_over x n)
floor_over_fits (pos a) n fits = record { sfits = omega (arith, fits.sfits, div-le_self a n) }
floor_over_fits (negsuc a) n fits = record { sfits = omega (arith, fits.sfits, div-le_self a n) }

floor_fits : (x y : ℤ) → SFits w64 x → y ≢ negsuc 0 → SFits w64 (floor_quotient x y)
floor_fits x (pos zero) fits other = record { sfits = omega arith }
floor_fits x (pos (suc n)) fits other = floor_over_fits x (suc n) fits
floor_fits x (negsuc zero) fits other = absurd (other refl)
floor_fits (pos zero) (negsuc (suc n)) fits other = floor_over_fits (pos zero) (suc (suc n)) fits
floor_fits (pos (suc a)) (negsuc (suc n)) fits other =
    record { sfits = omega (arith, fits.sfits, div-le_self a (suc (suc n))) }
floor_fits (negsuc a) (negsuc (suc n)) fits other =
    record {
      sfits = omega (
        arith,
        fits.sfits,
        div-lt_self {n = suc a} {k = suc (suc n)} (omega arith) (omega arith),
      );
    }

-- and so is one less, where it is rounded up
pub lesser_fits : (x y : ℤ) → SFits w64 x → y ≢ pos 0 → y ≢ negsuc 0
    → is_rounded_up (int_rem x y) y ≡ true → SFits w64 (int_div x y -ℤ pos 1)
lesser_fits x y fits some other up =
    subst (SFits w64) (floor_quotient-rounded_up x y some up) (floor_fits x y fits other)

-- what is left is of the range, and with a divisor of another sign too
pub rem_fits : (x y : ℤ) → SFits w64 x → SFits w64 (int_rem x y)
rem_fits x y fits = record { sfits = omega (arith, mag_rem x y, fits.sfits) }

mag_sub : (a b k : ℕ) → a < k → b ≤ k → mag (sub_ℕ a b) < k
mag_sub a b k low high = by (ltb a b)
  where
    by : (t : Bool) → mag (cond t (negsuc (b - suc a)) (pos (a - b))) < k
    by true = omega (arith, low, high)
    by false = omega (arith, low)

pub sum_fits : (r y : ℤ) → SFits w64 r → SFits w64 y → is_rounded_up r y ≡ true → SFits w64 (r +ℤ y)
sum_fits (pos r) (pos y) p q up = absurd (grind (arith, ints, up))
sum_fits (pos r) (negsuc y) p q up =
    record { sfits = mag_sub r (suc y) (2 ^ 63) p.sfits (omega (arith, q.sfits)) }
sum_fits (negsuc r) (pos y) p q up =
    record { sfits = mag_sub y (suc r) (2 ^ 63) q.sfits (omega (arith, p.sfits)) }
sum_fits (negsuc r) (negsuc y) p q up = absurd (grind (arith, ints, up))

-- the test on what the code has left
pub test_is : (x y : ℤ) → SFits w64 x → SFits w64 y
    → is_rounded_up (to_z w64 (of_z w64 (int_rem (to_z w64 (of_z w64 x)) (to_z w64 (of_z w64 y)))))
    (to_z w64 (of_z w64 y))
    ≡ is_rounded_up (int_rem x y) y
test_is x y p q =
    ap (λ (r : ℤ). is_rounded_up r (to_z w64 (of_z w64 y))) (rem_is w64 x y p q)
    ∙ ap (is_rounded_up (int_rem x y)) (to_z-of_z w64 y q)

-- what a quotient rounded down leaves
pub remainder-left : (x y : ℤ) → y ≢ pos 0 → remainder x y ≡ x -ℤ floor_quotient x y *ℤ y
remainder-left x y some = by (int_eq y (pos 0)) (Decides-int_eq y (pos 0))
  where
    by : (t : Bool) → Decides t (y ≡ pos 0)
        → (if t then pos 0 else x -ℤ floor_quotient x y *ℤ y) ≡ x -ℤ floor_quotient x y *ℤ y
    by true tells = absurd (some (tells.0 refl))
    by false tells = refl

pub remainder-rounded_up : (x y : ℤ) → y ≢ pos 0 → is_rounded_up (int_rem x y) y ≡ true
    → remainder x y ≡ int_rem x y +ℤ y
remainder-rounded_up x y some up =
    let whole : int_div x y *ℤ y +ℤ int_rem x y ≡ x = quot-rem x y in
    let less : (int_div x y -ℤ pos 1) *ℤ y ≡ int_div x y *ℤ y -ℤ y =
    ap (λ (z : ℤ). z *ℤ y) (-ℤ_one (int_div x y)) ∙ pred_ℤ-*ℤ (int_div x y) y in
    remainder-left x y some
    ∙ ap (λ (z : ℤ). x -ℤ z *ℤ y) (floor_quotient-rounded_up x y some up)
    ∙ ap (λ (z : ℤ). x -ℤ z) less
    ∙ omega (arith, ints, whole)

pub remainder-kept : (x y : ℤ) → y ≢ pos 0 → is_rounded_up (int_rem x y) y ≡ false
    → remainder x y ≡ int_rem x y
remainder-kept x y some down =
    let whole : int_div x y *ℤ y +ℤ int_rem x y ≡ x = quot-rem x y in
    remainder-left x y some
    ∙ ap (λ (z : ℤ). x -ℤ z *ℤ y) (floor_quotient-kept x y some down)
    ∙ omega (arith, ints, whole)
