-- What stands in the list of the coprimes, and in a part of it.
use Rattle.std.proofs.Common.{◌≡◌, ℕ, zero, suc, ◌+◌, ◌-◌, ◌<◌, ◌≤◌, Bool, true, false, arith}
use Rattle.std.proofs.Common.{List, [], ◌∷◌, ◌++◌, append-nil, length, get_or}
use Rattle.std.proofs.Common.{refl, sym, ap, ◌∙◌, subst, ⊎_elim}
use Rattle.std.specs.Prelude.{filter, Contains}
use Rattle.std.specs.List.{range_with_len}
use Rattle.std.specs.List.Sorted.{IsStrictlyIncreasing}
use Rattle.std.specs.Int.{IsGcd}
use Rattle.std.proofs.Math.Nat.{one-dvd}
use Rattle.std.proofs.lemmas.Nat.Gcd.{same_from_IsGcd}
use Rattle.std.proofs.lemmas.Bool.{cases_eq, cases_Bool, cond-true, cond-false, false_from_ne_true}
use Rattle.std.proofs.lemmas.List.FromFn.{length-range_with_len, get_or-range_with_len}
use Rattle.std.proofs.lemmas.List.Sums.{length-filter, count_by-le-length}
use Rattle.std.proofs.lemmas.List.Elements.{Contains-append_left, Contains-append_right}
use Rattle.std.proofs.lemmas.List.Elements.{filter-append, Contains-get_or}
use Rattle.std.proofs.lemmas.List.Kept.{IsStrictlyIncreasing-filter}
use Rattle.std.proofs.lemmas.Map.Made.{Contains-tail}
use Rattle.steal_walk.specs.Coprimes.{are_coprime, coprimes_of, AreCoprimes}
use Rattle.steal_walk.proofs.Coprime.{IsGcd-from_are_coprime, are_coprime-from_IsGcd}

pub length-coprimes_of-le : (n : ℕ) → length (coprimes_of n) ≤ n
unfolding coprimes_of
length-coprimes_of-le n =
    let p : ℕ → Bool = λ k. are_coprime k n in
    let all = count_by-le-length p (range_with_len 1 n) in
    let wide = length-range_with_len 1 n in
    let kept = length-filter p (range_with_len 1 n) in
    omega (arith, all, wide, kept)

pub coprimes_of-one : coprimes_of 1 ≡ 1 ∷ []
unfolding coprimes_of
coprimes_of-one = refl

-- ---- ranges
range-increasing : (a n : ℕ) → IsStrictlyIncreasing (range_with_len a n)
range-increasing a n = λ k short.
    let long = length-range_with_len a n in
    let here = get_or-range_with_len a n k 0 (omega arith) in
    let next = get_or-range_with_len a n (k + 1) 0 (omega arith) in
    omega (arith, here, next)

between-from_Contains : (a n k : ℕ) → Contains (range_with_len a n) k → (a ≤ k) × (k < a + n)
between-from_Contains a n k h =
    let long = length-range_with_len a n in
    let at = get_or-range_with_len a n h.0 k (omega (arith, h.1)) in
    (omega (arith, at, h.2), omega (arith, at, h.1, h.2))

Contains-range : (a n k : ℕ) → a ≤ k → k < a + n → Contains (range_with_len a n) k
Contains-range a n k low high =
    let long = length-range_with_len a n in
    (k - a, omega arith, get_or-range_with_len a n (k - a) k (omega arith) ∙ omega arith)

range-more : (a n : ℕ) → range_with_len a (suc n) ≡ range_with_len a n ++ (a + n) ∷ []
range-more a zero = let same : a ≡ a + 0 = omega arith in cc
range-more a (suc n) =
    let rest = range-more (a + 1) n in
    let last : a + 1 + n ≡ a + suc n = omega arith in
    cc

-- ---- filters
Contains-cons : (x q : ℕ) (xs : List ℕ) → x ≡ q → Contains (x ∷ xs) q
Contains-cons x q xs e = Contains-append_left (x ∷ []) xs q (0, omega arith, e)

filter-yes : (p : ℕ → Bool) (x : ℕ) (xs : List ℕ) → p x ≡ true → filter p (x ∷ xs) ≡ x ∷ filter p xs
filter-yes p x xs keeps = cond-true (p x) (x ∷ filter p xs) (filter p xs) keeps

filter-no : (p : ℕ → Bool) (x : ℕ) (xs : List ℕ) → p x ≡ false → filter p (x ∷ xs) ≡ filter p xs
filter-no p x xs drops = cond-false (p x) (x ∷ filter p xs) (filter p xs) drops

Contains-from_filter :
    (p : ℕ → Bool) (xs : List ℕ) (q : ℕ) →
    Contains (filter p xs) q → Contains xs q × (p q ≡ true)
Contains-from_filter p [] q h = absurd (omega (arith, h.1))
Contains-from_filter p (x ∷ xs) q h =
    let more : Contains (filter p xs) q → Contains (x ∷ xs) q × (p q ≡ true) = λ k.
    let rest = Contains-from_filter p xs q k in
    (Contains-append_right (x ∷ []) xs q rest.0, rest.1) in
    ⊎_elim
    (λ keeps.
    let there = subst (λ ys. Contains ys q) (filter-yes p x xs keeps) h in
    ⊎_elim
    (λ same. (Contains-cons x q xs same, subst (λ m. p m ≡ true) same keeps))
    (λ other. more (Contains-tail x (filter p xs) q other there))
    (cases_eq x q))
    (λ drops. more (subst (λ ys. Contains ys q) (filter-no p x xs drops) h))
    (cases_Bool (p x))

Contains-filter :
    (p : ℕ → Bool) (xs : List ℕ) (q : ℕ) →
    Contains xs q → p q ≡ true → Contains (filter p xs) q
Contains-filter p [] q h passes = absurd (omega (arith, h.1))
Contains-filter p (x ∷ xs) q h passes =
    ⊎_elim
    (λ same.
    let keeps : p x ≡ true = ap p same ∙ passes in
    let here = Contains-cons x q (filter p xs) same in
    subst (λ ys. Contains ys q) (sym (filter-yes p x xs keeps)) here)
    (λ other.
    let rest = Contains-filter p xs q (Contains-tail x xs q other h) passes in
    let behind = Contains-append_right (x ∷ []) (filter p xs) q rest in
    ⊎_elim
    (λ keeps. subst (λ ys. Contains ys q) (sym (filter-yes p x xs keeps)) behind)
    (λ drops. subst (λ ys. Contains ys q) (sym (filter-no p x xs drops)) rest)
    (cases_Bool (p x)))
    (cases_eq x q)

-- ---- the whole list
pub coprimes_of-AreCoprimes : (n : ℕ) → 0 < n → AreCoprimes n (coprimes_of n)
unfolding coprimes_of
coprimes_of-AreCoprimes n some =
    let p : ℕ → Bool = λ k. are_coprime k n in
    let all : List ℕ = range_with_len 1 n in
    record {
      ascending = IsStrictlyIncreasing-filter p all (range-increasing 1 n);
      exact = λ k. (
        λ h.
            let found = Contains-from_filter p all k h in
            let between = between-from_Contains 1 n k found.0 in
            (between.0, omega (arith, between.1), IsGcd-from_are_coprime k n some found.1),
        λ h.
            let listed = Contains-range 1 n k h.0 (omega (arith, h.1)) in
            Contains-filter p all k listed (are_coprime-from_IsGcd k n h.2),
      );
    }

pub some_coprime : (n : ℕ) (numbers : List ℕ) → 0 < n → AreCoprimes n numbers → 0 < length numbers
some_coprime n numbers some are =
    let unit : IsGcd 1 n 1 = (one-dvd 1, one-dvd n, λ d p q. p) in
    let one = (are.exact 1).1 (omega arith, omega arith, unit) in
    omega (arith, one.1)

-- what is known of a number in the list
pub record IsStep (n step : ℕ) : Type 0 where
  pub positive : 0 < step
  pub within : step ≤ n
  pub coprime : IsGcd step n 1

pub coprime_at :
    (n i : ℕ) (numbers : List ℕ) →
    AreCoprimes n numbers → i < length numbers → IsStep n (get_or numbers i 0)
coprime_at n i numbers are short =
    let known = (are.exact (get_or numbers i 0)).0 (Contains-get_or numbers i 0 short) in
    record { positive = known.0; within = known.1; coprime = known.2 }

-- ---- a part of the list: the numbers of 1..k that are coprime to n
abbrev pub listed_below : ℕ → ℕ → List ℕ
listed_below n k = filter (λ j. are_coprime j n) (range_with_len 1 (k - 1))

-- what a loop that lists the coprimes of n keeps: all below k are listed, and n have room
pub record HasListed (n k : ℕ) (numbers : List ℕ) (len capacity : ℕ) : Type 0 where
  pub listed : numbers ≡ listed_below n k
  pub behind : len < k
  pub room : capacity ≡ n

pub listed_below-all : (n k : ℕ) → k ≡ n + 1 → listed_below n k ≡ coprimes_of n
unfolding coprimes_of
listed_below-all n k past =
    ap (λ m. filter (λ j. are_coprime j n) (range_with_len 1 m)) (omega arith)

listed_below-more :
    (n k : ℕ) → 1 ≤ k →
    listed_below n (k + 1) ≡ listed_below n k ++ filter (λ j. are_coprime j n) (k ∷ [])
listed_below-more n k low =
    let p : ℕ → Bool = λ j. are_coprime j n in
    let before : k + 1 - 1 ≡ suc (k - 1) = omega arith in
    let last : 1 + (k - 1) ≡ k = omega arith in
    ap (λ m. filter p (range_with_len 1 m)) before ∙
    ap (filter p) (range-more 1 (k - 1)) ∙
    filter-append p (range_with_len 1 (k - 1)) ((1 + (k - 1)) ∷ []) ∙
    ap (λ m. listed_below n k ++ filter p (m ∷ [])) last

-- one number more, after its greatest common divisor with n was found to be 1 or not
pub listed_below-more_yes :
    (n k g : ℕ) (before after : List ℕ) → 1 ≤ k → IsGcd k n g → g ≡ 1 →
    before ≡ listed_below n k → after ≡ before ++ k ∷ [] → after ≡ listed_below n (k + 1)
listed_below-more_yes n k g before after low h one was pushed =
    let p : ℕ → Bool = λ j. are_coprime j n in
    let keeps = are_coprime-from_IsGcd k n (subst (IsGcd k n) one h) in
    let more = ap (λ ys. listed_below n k ++ ys) (filter-yes p k [] keeps) in
    pushed ∙ ap (λ ys. ys ++ k ∷ []) was ∙ sym (listed_below-more n k low ∙ more)

pub listed_below-more_no :
    (n k g : ℕ) (before : List ℕ) → 1 ≤ k → 0 < n → IsGcd k n g → (g ≡ 1 → ⊥) →
    before ≡ listed_below n k → before ≡ listed_below n (k + 1)
listed_below-more_no n k g before low some h other was =
    let p : ℕ → Bool = λ j. are_coprime j n in
    let never : p k ≡ true → ⊥ = λ passes.
    other (same_from_IsGcd k n g 1 h (IsGcd-from_are_coprime k n some passes)) in
    let drops = false_from_ne_true (p k) never in
    let same = ap (λ ys. listed_below n k ++ ys) (filter-no p k [] drops) in
    was ∙ sym (listed_below-more n k low ∙ same ∙ append-nil (listed_below n k))
