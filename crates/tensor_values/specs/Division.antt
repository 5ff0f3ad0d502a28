-- Division that rounds down, and shifts, which multiply and divide by a power of two.
use Rattle.std.specs.Prelude.{ℕ, ℤ, zero, suc, pos, negsuc, ◌/◌, ◌^◌, ◌-ℤ◌, ◌*ℤ◌, neg_ℤ, min}
use Rattle.std.specs.Prelude.{◌≡◌, ◌+ℤ◌, ◌<ℤ◌, ◌≤ℤ◌}
use Rattle.std.specs.Prelude.{if◌then◌else◌}
use Rattle.std.specs.Ordering.{int_eq}

-- an integer divided by a natural number above 0, rounded down
abbrev pub floor_over : ℤ → ℕ → ℤ
floor_over (pos a) n = pos (a / n)
floor_over (negsuc a) n = negsuc (a / n)

-- an integer divided by another, rounded down; 0 if the divisor is 0
abbrev pub floor_quotient : ℤ → ℤ → ℤ
floor_quotient x (pos zero) = pos 0
floor_quotient x (pos (suc n)) = floor_over x (suc n)
floor_quotient x (negsuc n) = floor_over (neg_ℤ x) (suc n)

-- the remainder of the division rounded down; 0 if the divisor is 0
abbrev pub remainder : ℤ → ℤ → ℤ
remainder x y = if int_eq y (pos 0) then pos 0 else x -ℤ floor_quotient x y *ℤ y

-- q is the quotient and r the remainder of x by y: r lies between 0 and y, and may be 0 but not y
pub record AreDivided (x y q r : ℤ) : Type 0 where
  pub whole : x ≡ q *ℤ y +ℤ r
  pub above : pos 0 <ℤ y → (pos 0 ≤ℤ r) × (r <ℤ y)
  pub below : y <ℤ pos 0 → (r ≤ℤ pos 0) × (y <ℤ r)

-- the number of bit positions that a count shifts by: all 64 if the count is below 0 or above 63
abbrev pub places_of : ℤ → ℕ
places_of (pos n) = min n 64
places_of (negsuc n) = 64

-- x times 2^count; a count that shifts by all positions gives a multiple of 2^64, which wraps to 0
abbrev pub shifted_left : ℤ → ℤ → ℤ
shifted_left x count = x *ℤ pos (2 ^ places_of count)

-- x divided by 2^count, rounded down
abbrev pub shifted_right : ℤ → ℤ → ℤ
shifted_right x count = floor_over x (2 ^ places_of count)
