-- Quotients as products with an inverse that is rounded up.
use Rattle.std.proofs.Common.{◌≡◌, ◌∙◌, ap, sym, subst, ℕ, suc, ◌+◌, ◌-◌, ◌*◌, ◌/◌, ◌%◌, ◌^◌, ◌<◌, ◌≤◌, arith}
use Rattle.std.proofs.Common.{ℤ, pos, negsuc, true, false, inl, inr}
use Rattle.std.specs.Prelude.{int_lt}
use Rattle.std.specs.Int.{div_ceil}
use Rattle.std.specs.Int.Count.{count_leading_zeros}
use Rattle.std.proofs.Math.Nat.{mod-lt, mod-eq_of_lt, mul-le-mul_left, mul-le-mul_right, two-pow-succ}
use Rattle.std.proofs.Math.Nat.{mul-lt-mul_of_pos_right, lt_of_mul-lt-mul_left, lt_of_mul-lt-mul_right}
use Rattle.std.proofs.Math.Nat.{pow-le-pow_right}
use Rattle.std.proofs.Math.Pow.{pow-lt}
use Rattle.std.proofs.lemmas.Bool.{cases_lt}
use Rattle.std.proofs.lemmas.Grind.{div_ceil_times}
use Rattle.std.proofs.lemmas.Int.{ints}
use Rattle.std.proofs.lemmas.Nat.{div-add-mod', div-mul-add, leading_length, pow-add, pow_pos, shr-shr}
use Rattle.tensor_loops.specs.private.Distance.{distance, at_distance}
use Rattle.tensor_values.specs.Division.{floor_over}

-- the quotient by p of u times m is the quotient of u by c, if m times c is e above p, and u times e
-- is below p
pub by_inverse : (u c m p e : ℕ) → 0 < c → m * c ≡ p + e → u * e < p → u * m / p ≡ u / c
by_inverse u c m p e some is small =
    let q : ℕ = u / c in
    let r : ℕ = u % c in
    let whole : q * c + r ≡ u = div-add-mod' u c in
    let left : r < c = mod-lt u some in
    let parts : (q * c + r) * m ≡ q * (m * c) + r * m = grind arith in
    let apart : q * (p + e) + r * m ≡ q * p + (q * e + r * m) = grind arith in
    let product : u * m ≡ q * p + (q * e + r * m) =
    ap (λ n. n * m) (sym whole) ∙ parts ∙ ap (λ n. q * n + r * m) is ∙ apart in
    let times : c * (q * e + r * m) ≡ q * c * e + r * (m * c) = grind arith in
    let spread : q * c * e + r * (p + e) ≡ (q * c + r) * e + r * p = grind arith in
    let all : c * (q * e + r * m) ≡ u * e + r * p =
    times ∙ ap (λ n. q * c * e + r * n) is ∙ spread ∙ ap (λ n. n * e + r * p) whole in
    let next : suc r * p ≡ p + r * p = grind arith in
    let most : suc r * p ≤ c * p = mul-le-mul_right p left in
    let rest : q * e + r * m < p = lt_of_mul-lt-mul_left c (omega (arith, all, next, most, small)) in
    ap (λ n. n / p) product ∙ div-mul-add q p (q * e + r * m) rest

-- how far a product of m and c is above a power of two
above : (a b : ℕ) → b ≤ a → a ≡ b + (a - b)
above a b le = omega (arith, le)

-- a number below 2^63 times what the inverse is too large by
small_error : (u c e s : ℕ) → u < 2 ^ 63 → e < c → c ≤ 2 ^ s → u * e < 2 ^ (63 + s)
small_error u c e s low less digits =
    let most : u * e ≤ u * 2 ^ s = mul-le-mul_left u (omega (arith, less, digits)) in
    let below : u * 2 ^ s < 2 ^ 63 * 2 ^ s = mul-lt-mul_of_pos_right low (pow_pos s) in
    let whole : 2 ^ (63 + s) ≡ 2 ^ 63 * 2 ^ s = pow-add 2 63 s in
    omega (arith, most, below, whole)

-- the high half of a product of twice a number, shifted
pub quotient-is : (u c m s : ℕ) → 0 < c → u < 2 ^ 63 → c ≤ 2 ^ s → 2 ^ (63 + s) ≤ m * c
    → m * c < 2 ^ (63 + s) + c → 2 * u * m / 2 ^ 64 / 2 ^ s ≡ u / c
quotient-is u c m s some low digits least most =
    let p : ℕ = 2 ^ (63 + s) in
    let e : ℕ = m * c - p in
    let is : m * c ≡ p + e = above (m * c) p least in
    let error : u * e < p = small_error u c e s low (omega (arith, is, most)) digits in
    let more : 64 + s ≡ suc (63 + s) = omega arith in
    let double : 2 ^ (64 + s) ≡ p + p = ap (λ k. 2 ^ k) more ∙ two-pow-succ (63 + s) in
    let twice : 2 * m * c ≡ 2 * (m * c) = grind arith in
    let apart : 2 * (p + e) ≡ 2 ^ (64 + s) + 2 * e = omega (arith, double) in
    let errors : u * (2 * e) ≡ u * e + u * e = grind arith in
    let moved : 2 * u * m ≡ u * (2 * m) = grind arith in
    shr-shr (2 * u * m) 64 s ∙ ap (λ n. n / 2 ^ (64 + s)) moved
    ∙ by_inverse u c (2 * m) (2 ^ (64 + s)) (2 * e) some (twice ∙ ap (λ n. 2 * n) is ∙ apart)
    (omega (arith, errors, error, double))

-- an inverse fits 64 bits
pub inverse_fits : (c m s : ℕ) → 0 < c → c < 2 ^ 63 → 2 ^ s ≤ 2 * (c - 1) + 1
    → m * c < 2 ^ (63 + s) + c → m < 2 ^ 64
inverse_fits c m s some few digits most =
    let whole : 2 ^ (63 + s) ≡ 2 ^ 63 * 2 ^ s = pow-add 2 63 s in
    let room : 2 ^ 63 * 2 ^ s ≤ 2 ^ 63 * (2 * (c - 1) + 1) = mul-le-mul_left (2 ^ 63) digits in
    lt_of_mul-lt-mul_right c (omega (arith, whole, room, most, some, few))

-- the digits of a number below 2^63
few_digits : (n s : ℕ) → n < 2 ^ 63 → 2 ^ s ≤ 2 * n + 1 → s < 64
few_digits n s few digits =
    elim (cases_lt s 64) [
      | inl below ↦ below
      | inr over ↦
          let most : 2 ^ 64 ≤ 2 ^ s = pow-le-pow_right (omega arith) over in
          absurd (omega (arith, most, digits, few))
    ]

-- the digits of the greatest number below a divisor
abbrev pub digits_below : ℕ → ℕ
digits_below c = 64 - count_leading_zeros 64 (c - 1)

pub digits_of : (c : ℕ) → 0 < c → c < 2 ^ 63
    → (digits_below c < 64) × (c ≤ 2 ^ digits_below c) × (2 ^ digits_below c ≤ 2 * (c - 1) + 1)
digits_of c some few =
    let d = leading_length 64 (c - 1) (omega (arith, few)) in
    let is : d.0 ≡ digits_below c = omega (arith, d.1) in
    let short : d.0 < 64 = few_digits (c - 1) d.0 (omega (arith, few)) d.3 in
    let digits : c ≤ 2 ^ d.0 = omega (arith, d.2) in
    subst (λ s. (s < 64) × (c ≤ 2 ^ s) × (2 ^ s ≤ 2 * (c - 1) + 1)) is (short, digits, d.3)

-- how far an inverse is rounded up
pub inverse_bounds : (c m s : ℕ) → 0 < c → s < 64 → m ≡ div_ceil (1 * 2 ^ (63 + s) % 2 ^ 128) c
    → (2 ^ (63 + s) ≤ m * c) × (m * c < 2 ^ (63 + s) + c)
inverse_bounds c m s some short made =
    let few : 63 + s < 128 = omega (arith, short) in
    let one : 1 * 2 ^ (63 + s) ≡ 2 ^ (63 + s) = omega arith in
    let whole : 1 * 2 ^ (63 + s) % 2 ^ 128 ≡ 2 ^ (63 + s) =
    ap (λ n. n % 2 ^ 128) one ∙ mod-eq_of_lt (pow-lt few) in
    let is : m ≡ div_ceil (2 ^ (63 + s)) c = made ∙ ap (λ n. div_ceil n c) whole in
    subst (λ n. (2 ^ (63 + s) ≤ n * c) × (n * c < 2 ^ (63 + s) + c)) (sym is)
    (div_ceil_times (2 ^ (63 + s)) c some)

-- the quotient of an integer by the quotient of its distance
pub floor_over-is : (x : ℤ) (c : ℕ) → at_distance (int_lt x (pos 0)) (distance x / c) ≡ floor_over x c
floor_over-is (pos a) c =
    let above : int_lt (pos a) (pos 0) ≡ false = grind (arith, ints) in
    ap (λ b. at_distance b (a / c)) above
floor_over-is (negsuc a) c =
    let below : int_lt (negsuc a) (pos 0) ≡ true = grind (arith, ints) in
    ap (λ b. at_distance b (a / c)) below
