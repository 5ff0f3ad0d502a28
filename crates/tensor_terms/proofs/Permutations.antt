-- Lists of n numbers in which all numbers below n stand, by taking n - 1 out of them.
use Rattle.std.proofs.Common.{◌≡◌, ℕ, zero, suc, ◌+◌, ◌*◌, ◌<◌, ◌≤◌, max, List, [], ◌∷◌, length, get_or, take}
use Rattle.std.proofs.Common.{Bool, true, false, not, ◌&&◌, ◌||◌, nat_eq, nat_lt, if◌then◌else◌}
use Rattle.std.proofs.Common.{refl, ap, sym, ◌∙◌, arith, inl, inr}
use Rattle.std.proofs.lemmas.Bool.{and_parts, and_from, or_parts, or_cases, cases_eq, eqb-true, eq-eqb}
use Rattle.std.proofs.lemmas.Bool.{ne_eqb, lt-ltb, not-true, not_from_false, false_from_ne_true}
use Rattle.tensor_shape.specs.Legal.{bulk_of}
use Rattle.tensor_terms.specs.Movement.{shuffled_dims, is_among, has_all_below}

-- a list without a number, where that is first in it
abbrev pub without : ℕ → List ℕ → List ℕ
without n [] = []
without n (s ∷ ss) = if nat_eq n s then ss else s ∷ without n ss

-- all numbers of a list are below one
abbrev pub are_below : List ℕ → ℕ → Bool
are_below [] n = true
are_below (s ∷ ss) n = nat_lt s n && are_below ss n

-- no number is twice in a list
abbrev pub are_distinct : List ℕ → Bool
are_distinct [] = true
are_distinct (s ∷ ss) = not (is_among s ss) && are_distinct ss

-- a number among a list is its first one, or among the rest
pub is_among-rest : (n s : ℕ) (ss : List ℕ) → (n ≡ s → ⊥) → is_among n (s ∷ ss) ≡ true → is_among n ss ≡ true
is_among-rest n s ss other h =
    elim (or_cases (nat_eq n s) (is_among n ss) h) [
      | inl first ↦ absurd (other (eqb-true n s first))
      | inr rest ↦ rest
    ]

pub length-without : (n : ℕ) (ss : List ℕ) → is_among n ss ≡ true → length ss ≡ length (without n ss) + 1
length-without n [] h = (cc)
length-without n (s ∷ ss) h =
    elim (cases_eq n s) [
      | inl same ↦ rw (eq-eqb n s same) (omega arith)
      | inr other ↦ rw (ne_eqb n s other) (omega (arith, length-without n ss (is_among-rest n s ss other h)))
    ]

-- the other numbers stay
pub is_among-without : (m n : ℕ) (ss : List ℕ) → (m ≡ n → ⊥) → is_among m (without n ss) ≡ is_among m ss
is_among-without m n [] other = refl
is_among-without m n (s ∷ ss) other =
    elim (cases_eq n s) [
      | inl same ↦ rw (eq-eqb n s same, ne_eqb m s (λ e. other (e ∙ sym same))) refl
      | inr differs ↦ rw (ne_eqb n s differs) (ap (λ b. nat_eq m s || b) (is_among-without m n ss other))
    ]

pub has_all_below-without : (k n : ℕ) (ss : List ℕ) → k ≤ n → has_all_below k ss ≡ true → has_all_below k (without n ss) ≡ true
has_all_below-without zero n ss within h = refl
has_all_below-without (suc k) n ss within h =
    let parts = and_parts (is_among k ss) (has_all_below k ss) h in
    and_from (is_among k (without n ss)) (has_all_below k (without n ss))
    (is_among-without k n ss (λ e. omega arith) ∙ parts.0)
    (has_all_below-without k n ss (omega arith) parts.1)

-- a number of a permutation is one of those below n
pub is_among-permutation : (n m : ℕ) (ss : List ℕ) → length ss ≡ n → has_all_below n ss ≡ true → is_among m ss ≡ true → m < n
is_among-permutation zero m [] long all among = (cc)
is_among-permutation zero m (s ∷ ss) long all among = absurd (omega arith)
is_among-permutation (suc n) m ss long all among =
    let parts = and_parts (is_among n ss) (has_all_below n ss) all in
    elim (cases_eq m n) [
      | inl same ↦ omega arith
      | inr other ↦
          let rest = is_among-permutation n m (without n ss) (omega (arith, length-without n ss parts.0))
          (has_all_below-without n n ss (omega arith) parts.1) (is_among-without m n ss other ∙ among) in
          omega (arith, rest)
    ]

-- each number below n is one of them
pub is_among-has_all_below : (n m : ℕ) (ss : List ℕ) → has_all_below n ss ≡ true → m < n → is_among m ss ≡ true
is_among-has_all_below zero m ss all below = absurd (omega arith)
is_among-has_all_below (suc n) m ss all below =
    let parts = and_parts (is_among n ss) (has_all_below n ss) all in
    elim (cases_eq m n) [
      | inl same ↦ rw same parts.0
      | inr other ↦ is_among-has_all_below n m ss parts.1 (omega arith)
    ]

-- an element of a list is among it
pub is_among-get_or : (ss : List ℕ) (k : ℕ) → k < length ss → is_among (get_or ss k 0) ss ≡ true
is_among-get_or [] k within = absurd (omega arith)
is_among-get_or (s ∷ ss) zero within = rw (eq-eqb s s refl) refl
is_among-get_or (s ∷ ss) (suc k) within =
    elim (cases_eq (get_or ss k 0) s) [
      | inl same ↦ rw (eq-eqb (get_or ss k 0) s same) refl
      | inr other ↦ rw (ne_eqb (get_or ss k 0) s other) (is_among-get_or ss k (omega arith))
    ]

-- so each number of a permutation is below n
pub get_or-permutation : (n : ℕ) (ss : List ℕ) (k : ℕ) → length ss ≡ n → has_all_below n ss ≡ true → k < length ss → get_or ss k 0 < n
get_or-permutation n ss k long all within = is_among-permutation n (get_or ss k 0) ss long all (is_among-get_or ss k within)

-- numbers that are each below another one
are_below-each : (ss : List ℕ) (n : ℕ) → ((m : ℕ) → is_among m ss ≡ true → m < n) → are_below ss n ≡ true
are_below-each [] n each = refl
are_below-each (s ∷ ss) n each =
    and_from (nat_lt s n) (are_below ss n) (lt-ltb s n (each s (rw (eq-eqb s s refl) refl)))
    (are_below-each ss n (λ m among.
    each m (elim (cases_eq m s) [
      | inl same ↦ rw (eq-eqb m s same) refl
      | inr other ↦ rw (ne_eqb m s other) among
    ])))

pub are_below-permutation : (n : ℕ) (ss : List ℕ) → length ss ≡ n → has_all_below n ss ≡ true → are_below ss n ≡ true
are_below-permutation n ss long all = are_below-each ss n (λ m among. is_among-permutation n m ss long all among)

-- numbers are distinct where they are without one that is then gone
are_distinct-without : (n : ℕ) (ss : List ℕ) → is_among n (without n ss) ≡ false → are_distinct (without n ss) ≡ true → are_distinct ss ≡ true
are_distinct-without n [] gone once = refl
are_distinct-without n (s ∷ ss) gone once =
    elim (cases_eq n s) [
      | inl same ↦
          let absent : is_among n ss ≡ false = rw (eq-eqb n s same) at gone in
          let rest : are_distinct ss ≡ true = rw (eq-eqb n s same) at once in
          and_from (not (is_among s ss)) (are_distinct ss) (not_from_false (is_among s ss) (rw (← same) absent)) rest
      | inr other ↦
          let absent : is_among n (s ∷ without n ss) ≡ false = rw (ne_eqb n s other) at gone in
          let kept : are_distinct (s ∷ without n ss) ≡ true = rw (ne_eqb n s other) at once in
          let parts = and_parts (not (is_among s (without n ss))) (are_distinct (without n ss)) kept in
          let alone : is_among s ss ≡ false =
          sym (is_among-without s n ss (λ e. other (sym e))) ∙ not-true (is_among s (without n ss)) parts.0 in
          and_from (not (is_among s ss)) (are_distinct ss) (not_from_false (is_among s ss) alone)
          (are_distinct-without n ss (or_parts (nat_eq n s) (is_among n (without n ss)) absent).1 parts.1)
    ]

pub are_distinct-permutation : (n : ℕ) (ss : List ℕ) → length ss ≡ n → has_all_below n ss ≡ true → are_distinct ss ≡ true
are_distinct-permutation zero [] long all = refl
are_distinct-permutation zero (s ∷ ss) long all = absurd (omega arith)
are_distinct-permutation (suc n) ss long all =
    let parts = and_parts (is_among n ss) (has_all_below n ss) all in
    let shorter : length (without n ss) ≡ n = omega (arith, length-without n ss parts.0) in
    let rest = has_all_below-without n n ss (omega arith) parts.1 in
    let gone : is_among n (without n ss) ≡ true → ⊥ =
    λ among. omega (arith, is_among-permutation n n (without n ss) shorter rest among) in
    are_distinct-without n ss (false_from_ne_true (is_among n (without n ss)) gone)
    (are_distinct-permutation n (without n ss) shorter rest)

-- one more dimension
bulk_of-take-more : (ds : List ℕ) (i : ℕ) → i < length ds → bulk_of (take (suc i) ds) ≡ max 1 (get_or ds i 0) * bulk_of (take i ds)
bulk_of-take-more [] i within = absurd (omega arith)
bulk_of-take-more (d ∷ ds) zero within = refl
bulk_of-take-more (d ∷ ds) (suc i) within = let rest = bulk_of-take-more ds i (omega arith) in grind (arith, rest)

module _ (ds : List ℕ) where
  -- a dimension that is taken out is a factor
  bulk_of-without : (n : ℕ) (ss : List ℕ) → is_among n ss ≡ true
      → bulk_of (shuffled_dims ds ss) ≡ max 1 (get_or ds n 0) * bulk_of (shuffled_dims ds (without n ss))
  bulk_of-without n [] h = (cc)
  bulk_of-without n (s ∷ ss) h =
      elim (cases_eq n s) [
        | inl same ↦ rw (eq-eqb n s same, same) refl
        | inr other ↦
            let rest = bulk_of-without n ss (is_among-rest n s ss other h) in
            rw (ne_eqb n s other) (grind (arith, rest))
      ]

  -- a permutation keeps the bulk
  pub bulk_of-permutation : (n : ℕ) (ss : List ℕ) → n ≤ length ds → length ss ≡ n → has_all_below n ss ≡ true
      → bulk_of (shuffled_dims ds ss) ≡ bulk_of (take n ds)
  bulk_of-permutation zero [] within long all = refl
  bulk_of-permutation zero (s ∷ ss) within long all = absurd (omega arith)
  bulk_of-permutation (suc n) ss within long all =
      let parts = and_parts (is_among n ss) (has_all_below n ss) all in
      let rest = bulk_of-permutation n (without n ss) (omega arith) (omega (arith, length-without n ss parts.0))
      (has_all_below-without n n ss (omega arith) parts.1) in
      bulk_of-without n ss parts.0
      ∙ ap (λ b. max 1 (get_or ds n 0) * b) rest
      ∙ sym (bulk_of-take-more ds n (omega arith))
