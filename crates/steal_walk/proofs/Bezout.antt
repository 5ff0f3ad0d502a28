-- Bézout's identity for coprime numbers, by differences as in Euclid's algorithm.
use Prim.Native.Nat.{◌∣◌}
use Rattle.std.proofs.Common.{◌≡◌, ℕ, zero, suc, ◌+◌, ◌-◌, ◌*◌, ◌<◌, ◌≤◌}
use Rattle.std.proofs.Common.{arith, subst, sym, ap, ◌∙◌, ⊎_elim}
use Rattle.std.specs.Int.{IsGcd}
use Rattle.std.proofs.Math.Nat.{dvd-sub_iff_left, eq-one_of_dvd-one}
use Rattle.std.proofs.Math.Nat.{mul-sub, mul-le-mul_left, le-mul_of_pos_right}
use Rattle.std.proofs.lemmas.Nat.Gcd.{IsGcd-swap, dvd_refl, dvd-zero}
use Rattle.std.proofs.lemmas.Bool.{cases_order}

-- a times x is one more than b times y
pub record IsBezout (a b : ℕ) : Type 0 where
  pub x : ℕ
  pub y : ℕ
  pub is : a * x ≡ b * y + 1

-- x and y, counted down from a common multiple of a and b, change places
IsBezout-swap : (a b : ℕ) → 0 < a → IsBezout b a → IsBezout a b
IsBezout-swap a b some h =
    let is = h.is in
    let t : ℕ = h.x + h.y in
    let wide : t ≤ t * a = le-mul_of_pos_right t some in
    let within : h.x ≤ a * t = omega arith in
    let fits : b * h.x ≤ b * (a * t) = mul-le-mul_left b within in
    let down : a * (b * t) - a * h.y ≡ b * (a * t) - b * h.x + 1 = omega arith in
    record {
      x = b * t - h.y;
      y = a * t - h.x;
      is = mul-sub a (b * t) h.y ∙ down ∙ ap (λ n. n + 1) (sym (mul-sub b (a * t) h.x));
    }

IsBezout-more : (a b : ℕ) → b ≤ a → IsBezout (a - b) b → IsBezout a b
IsBezout-more a b le h =
    let is = h.is in
    let whole : a - b + b ≡ a = omega arith in
    let summed : (a - b + b) * h.x ≡ b * (h.y + h.x) + 1 = omega arith in
    record { x = h.x; y = h.y + h.x; is = subst (λ n. n * h.x ≡ b * (h.y + h.x) + 1) whole summed }

IsGcd-sub : (a b : ℕ) → b ≤ a → IsGcd a b 1 → IsGcd (a - b) b 1
IsGcd-sub a b le h = (
  (dvd-sub_iff_left 1 le h.1).1 h.0,
  h.1,
  λ d p q. h.2 d ((dvd-sub_iff_left d le q).0 p) q,
)

one_from_IsGcd : (a b : ℕ) → a ≡ b → IsGcd a b 1 → a ≡ 1
one_from_IsGcd a b e h =
    eq-one_of_dvd-one (h.2 a (dvd_refl a) (subst (λ n. a ∣ n) e (dvd_refl a)))

-- the identity, where it holds for all smaller pairs
bezout_step :
    (a b : ℕ) → 0 < a → 0 < b → IsGcd a b 1 →
    ((c d : ℕ) → c + d < a + b → 0 < c → IsGcd c d 1 → IsBezout c d) →
    IsBezout a b
bezout_step a b some_a some_b h smaller =
    ⊎_elim
    (λ same. let one = one_from_IsGcd a b same h in record { x = 2; y = 1; is = omega arith })
    (⊎_elim
    (λ lt.
    let less = IsGcd-sub b a (omega arith) (IsGcd-swap a b 1 h) in
    let rest = smaller (b - a) a (omega arith) (omega arith) less in
    IsBezout-swap a b some_a (IsBezout-more b a (omega arith) rest))
    (λ lt.
    let less = IsGcd-sub a b (omega arith) h in
    let rest = smaller (a - b) b (omega arith) (omega arith) less in
    IsBezout-more a b (omega arith) rest))
    (cases_order a b)

bezout_within : (fuel a b : ℕ) → a + b ≤ fuel → 0 < a → IsGcd a b 1 → IsBezout a b
bezout_within zero a b le some h = absurd (omega arith)
bezout_within (suc fuel) a zero le some h =
    let one : a ≡ 1 = eq-one_of_dvd-one (h.2 a (dvd_refl a) (dvd-zero a)) in
    record { x = 1; y = 0; is = omega arith }
bezout_within (suc fuel) a (suc b) le some h =
    bezout_step a (suc b) some (omega arith) h (λ c d lt. bezout_within fuel c d (omega arith))

pub bezout : (a b : ℕ) → 0 < a → IsGcd a b 1 → IsBezout a b
bezout a b some h = bezout_within (a + b) a b (omega arith) some h
