-- What the test for coprime numbers tells of their greatest common divisor.
use Prim.Native.Nat.{◌∣◌}
use Rattle.std.proofs.Common.{◌≡◌, ℕ, ◌+◌, ◌-◌, ◌%◌, ◌<◌, ◌≤◌, Bool, true, false, not, ◌&&◌}
use Rattle.std.proofs.Common.{get_or, arith, sym, ◌∙◌, subst, ⊎_elim}
use Rattle.std.specs.List.{range_with_len}
use Rattle.std.specs.Int.{IsGcd}
use Rattle.std.proofs.Math.Nat.{eq-one_of_dvd-one, one-dvd, pos_of_dvd_of_pos}
use Rattle.std.proofs.lemmas.Nat.Gcd.{dvd_of_mod-eq-zero, mod-eq-zero_of_dvd, le_of_dvd, dvd_refl}
use Rattle.std.proofs.lemmas.Bool.{eq-eqb, eqb-true, cases_lt, and_parts, and_from}
use Rattle.std.proofs.lemmas.Bool.{not_from_true, not_from_false, false_from_ne_true}
use Rattle.std.proofs.lemmas.List.FromFn.{length-range_with_len, get_or-range_with_len}
use Rattle.std.proofs.lemmas.List.Sums.{AllPass-from_list_all, list_all-from_AllPass}
use Rattle.steal_walk.specs.Coprimes.{divides, are_coprime}

-- whether d fails to divide both a and n
abbrev parts : (a n d : ℕ) → Bool
parts a n d = not (divides d a && divides d n)

divides-from_dvd : (d n : ℕ) → d ∣ n → divides d n ≡ true
divides-from_dvd d n h = eq-eqb (n % d) 0 (mod-eq-zero_of_dvd d h)

dvd-from_divides : (d n : ℕ) → divides d n ≡ true → d ∣ n
dvd-from_divides d n h = dvd_of_mod-eq-zero d (eqb-true (n % d) 0 h)

-- no number from 2 on divides both of two numbers that pass the test
are_coprime-at : (a n d : ℕ) → are_coprime a n ≡ true → 0 < n → 2 ≤ d → d ∣ a → d ∣ n → ⊥
are_coprime-at a n d test some two p q =
    let le : d ≤ n = le_of_dvd some q in
    let long = length-range_with_len 2 (n - 1) in
    let at : get_or (range_with_len 2 (n - 1)) (d - 2) 0 ≡ d =
    get_or-range_with_len 2 (n - 1) (d - 2) 0 (omega arith) ∙ omega arith in
    let apart =
    AllPass-from_list_all (parts a n) (range_with_len 2 (n - 1)) test (d - 2) 0 (omega arith) in
    let here : parts a n d ≡ true = subst (λ m. parts a n m ≡ true) at apart in
    let both =
    and_from (divides d a) (divides d n) (divides-from_dvd d a p) (divides-from_dvd d n q) in
    let there : parts a n d ≡ false = not_from_true (divides d a && divides d n) both in
    cc

pub IsGcd-from_are_coprime : (a n : ℕ) → 0 < n → are_coprime a n ≡ true → IsGcd a n 1
IsGcd-from_are_coprime a n some test = (
  one-dvd a,
  one-dvd n,
  λ d p q.
      let above : 0 < d = pos_of_dvd_of_pos q some in
      ⊎_elim
      (λ lt. let one : d ≡ 1 = omega arith in subst (λ m. m ∣ 1) (sym one) (dvd_refl 1))
      (λ two. absurd (are_coprime-at a n d test some two p q))
      (cases_lt d 2),
)

pub are_coprime-from_IsGcd : (a n : ℕ) → IsGcd a n 1 → are_coprime a n ≡ true
are_coprime-from_IsGcd a n h =
    list_all-from_AllPass (parts a n) (range_with_len 2 (n - 1)) (λ i e short.
    let long = length-range_with_len 2 (n - 1) in
    let at : get_or (range_with_len 2 (n - 1)) i e ≡ 2 + i =
    get_or-range_with_len 2 (n - 1) i e (omega arith) in
    let d : ℕ = 2 + i in
    let both : Bool = divides d a && divides d n in
    let never : both ≡ true → ⊥ = λ divide.
    let each = and_parts (divides d a) (divides d n) divide in
    let unit = h.2 d (dvd-from_divides d a each.0) (dvd-from_divides d n each.1) in
    let one : d ≡ 1 = eq-one_of_dvd-one unit in
    omega arith in
    let apart = not_from_false both (false_from_ne_true both never) in
    subst (λ m. parts a n m ≡ true) (sym at) apart)
