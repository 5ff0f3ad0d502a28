-- What a quotient rounded down leaves lies between 0 and the divisor.
use Rattle.std.proofs.Common.{◌≡◌, ◌≢◌, refl, ℕ, zero, suc, ◌+◌, ◌*◌, ◌/◌, ◌%◌, ◌<◌, arith}
use Rattle.std.proofs.Common.{ℤ, pos, negsuc, neg_ℤ, ◌-ℤ◌, ◌*ℤ◌, ◌<ℤ◌, ◌≤ℤ◌}
use Rattle.std.proofs.Math.IntN.{*ℤ-negsuc}
use Rattle.std.proofs.Math.Nat.{mod-lt, suc-mul}
use Rattle.std.proofs.lemmas.Nat.{div-add-mod'}
use Rattle.std.proofs.lemmas.Int.{ints}
use Rattle.tensor_values.specs.Division.{floor_over, floor_quotient, remainder, AreDivided}
use Rattle.tensor_values.proofs.Floors.{remainder-left}

-- r lies from 0 to n
abbrev IsBelow : ℤ → ℕ → Type 0
IsBelow r n = (pos 0 ≤ℤ r) × (r <ℤ pos (suc n))

rest_below : (z : ℤ) (n : ℕ) → IsBelow (z -ℤ floor_over z (suc n) *ℤ pos (suc n)) n
rest_below (pos a) n =
    let whole : a / suc n * suc n + a % suc n ≡ a = div-add-mod' a (suc n) in
    let less : a % suc n < suc n = mod-lt a {m = suc n} (omega arith) in
    (omega (arith, ints, whole, less), omega (arith, ints, whole, less))
rest_below (negsuc a) n =
    let whole : a / suc n * suc n + a % suc n ≡ a = div-add-mod' a (suc n) in
    let less : a % suc n < suc n = mod-lt a {m = suc n} (omega arith) in
    let one : suc (a / suc n) * suc n ≡ a / suc n * suc n + suc n = suc-mul (a / suc n) (suc n) in
    (omega (arith, ints, whole, less, one), omega (arith, ints, whole, less, one))

-- by a divisor below 0 the same is left of the number negated, on the other side of 0
rest_above : (x : ℤ) (n : ℕ)
    → ((x -ℤ floor_over (neg_ℤ x) (suc n) *ℤ negsuc n) ≤ℤ pos 0)
    × (negsuc n <ℤ (x -ℤ floor_over (neg_ℤ x) (suc n) *ℤ negsuc n))
rest_above x n =
    let other = rest_below (neg_ℤ x) n in
    let swapped : floor_over (neg_ℤ x) (suc n) *ℤ negsuc n
    ≡ neg_ℤ (floor_over (neg_ℤ x) (suc n) *ℤ pos (suc n)) =
    *ℤ-negsuc (floor_over (neg_ℤ x) (suc n)) n in
    (omega (arith, ints, other.0, other.1, swapped), omega (arith, ints, other.0, other.1, swapped))

pub divided : (x y : ℤ) → y ≢ pos 0 → AreDivided x y (floor_quotient x y) (remainder x y)
divided x (pos zero) some = absurd (some refl)
divided x (pos (suc n)) some =
    let left : remainder x (pos (suc n)) ≡ x -ℤ floor_over x (suc n) *ℤ pos (suc n) =
    remainder-left x (pos (suc n)) some in
    let bounds = rest_below x n in
    record {
      whole = omega (arith, ints, left);
      above = λ up. (omega (arith, ints, left, bounds.0), omega (arith, ints, left, bounds.1));
      below = λ down. absurd (omega (arith, ints, down));
    }
divided x (negsuc n) some =
    let left : remainder x (negsuc n) ≡ x -ℤ floor_over (neg_ℤ x) (suc n) *ℤ negsuc n =
    remainder-left x (negsuc n) some in
    let bounds = rest_above x n in
    record {
      whole = omega (arith, ints, left);
      above = λ up. absurd (omega (arith, ints, up));
      below = λ down. (omega (arith, ints, left, bounds.0), omega (arith, ints, left, bounds.1));
    }
