-- Names and their numbers.
use Rattle.std.proofs.Common.{◌≡◌, ℕ, ◌+◌, ◌<◌, List, [], ◌∷◌, length, true, false, Option, Some}
use Rattle.std.proofs.Common.{None, refl, sym, ◌∙◌, inl, inr, if◌then◌else◌, arith}
use Rattle.std.proofs.lemmas.Bool.{cases_Bool, false_from_ne_true, false≢true}
use Rattle.std.proofs.lemmas.Slice.Eq.{bytes_eq-Decides}
use Rattle.std.specs.List.{position_from}
use Rattle.std.specs.Map.{update}
use Rattle.std.specs.Option.{option_or}
use Rattle.std.specs.Str.{bytes_eq}
use Rattle.expr_reader.specs.Tensors.{number_of}

-- nothing, or a number, before nothing
pub option_or-None : {A : Type 0} (o : Option A) → option_or o None ≡ o
option_or-None None = refl
option_or-None (Some x) = refl

-- one thing before another, and then a third
pub option_or-option_or : {A : Type 0} (o p q : Option A) → option_or (option_or o p) q ≡ option_or o (option_or p q)
option_or-option_or None p q = refl
option_or-option_or (Some x) p q = refl

module _ (old new : List ℕ → Option ℕ) (name : List ℕ) (number : ℕ) where
  -- a name that had no number has it now, and the others are as they were
  pub put_new : old name ≡ None → ((q : List ℕ) → new q ≡ update bytes_eq old name (Some number) q)
      → (q : List ℕ) → new q ≡ option_or (old q) (if bytes_eq q name then Some number else None)
  put_new absent updated q = elim (cases_Bool (bytes_eq q name)) [
    | inl same ↦
        let is : q ≡ name = (bytes_eq-Decides q name).0 same in
        let back : bytes_eq name q ≡ true = (bytes_eq-Decides name q).1 (sym is) in
        rw (same, updated q, back, is, absent) refl
    | inr other ↦
        let back : bytes_eq name q ≡ false =
        false_from_ne_true (bytes_eq name q) (λ t. false≢true (sym other ∙ (bytes_eq-Decides q name).1 (sym ((bytes_eq-Decides name q).0 t)))) in
        rw (other, updated q, back) (sym (option_or-None (old q)))
  ]

-- one more name
pub position_from-cons : (q name : List ℕ) (names : List (List ℕ)) (n : ℕ)
    → position_from (λ other. bytes_eq q other) n (name ∷ names)
    ≡ option_or (if bytes_eq q name then Some n else None) (position_from (λ other. bytes_eq q other) (n + 1) names)
position_from-cons q name names n = elim (cases_Bool (bytes_eq q name)) [ inl same ↦ rw same refl | inr other ↦ rw other refl ]

-- a name that is found has a number of the list
pub position_from-below : (q : List ℕ) (names : List (List ℕ)) (n found : ℕ)
    → position_from (λ other. bytes_eq q other) n names ≡ Some found → found < n + length names
position_from-below q [] n found h = (cc)
position_from-below q (name ∷ names) n found h = elim (cases_Bool (bytes_eq q name)) [
  | inl same ↦ let here : Some n ≡ Some found = rw same at h in let is : n ≡ found = cc in omega arith
  | inr other ↦ let later = rw other at h in omega (arith, position_from-below q names (n + 1) found later)
]

pub number_of-below : (names : List (List ℕ)) (q : List ℕ) (found : ℕ) → number_of names q ≡ Some found → found < length names
number_of-below names q found h = omega (arith, position_from-below q names 0 found h)
