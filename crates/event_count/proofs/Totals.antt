-- Sums over a list in which one element changes.
use Rattle.std.proofs.Common.{◌≡◌, ◌≢◌, ℕ, zero, suc, ◌+◌, ◌≤◌, ◌<◌, List, [], ◌∷◌, set, sym, ap}
use Rattle.std.proofs.Common.{refl, ⊎_elim, arith}
use Rattle.std.proofs.lemmas.Bool.{cases_eq}
use mathlib.Core.Option.{some, some-injective, some-ne-none}
use lib.ListN.{get_elem?}
use Rattle.event_word.specs.Lists.{total}

module _ {A : Type 0} (f : A → ℕ) where
  pub total-set_at : (xs : List A) (i : ℕ) (v w : A) → get_elem? xs i ≡ some v
      → total f (set xs i w) + f v ≡ total f xs + f w
  total-set_at [] i v w at = absurd (some-ne-none v (sym at))
  total-set_at (x ∷ xs) zero v w at =
      let same : f x ≡ f v = ap f (some-injective x v at) in omega arith
  total-set_at (x ∷ xs) (suc i) v w at = let rest = total-set_at xs i v w at in omega arith

  -- one element's part is at most the sum
  pub le_total : (xs : List A) (i : ℕ) (v : A) → get_elem? xs i ≡ some v → f v ≤ total f xs
  le_total [] i v at = absurd (some-ne-none v (sym at))
  le_total (x ∷ xs) zero v at =
      let same : f x ≡ f v = ap f (some-injective x v at) in omega arith
  le_total (x ∷ xs) (suc i) v at = let rest = le_total xs i v at in omega arith

  -- and so are two elements' parts together
  pub two_le_total : (xs : List A) (i j : ℕ) (v w : A) → j ≢ i → get_elem? xs i ≡ some v
      → get_elem? xs j ≡ some w → f v + f w ≤ total f xs
  two_le_total [] i j v w ne at at' = absurd (some-ne-none v (sym at))
  two_le_total (x ∷ xs) zero zero v w ne at at' = absurd (ne refl)
  two_le_total (x ∷ xs) zero (suc j) v w ne at at' =
      let same : f x ≡ f v = ap f (some-injective x v at) in
      let rest = le_total xs j w at' in omega arith
  two_le_total (x ∷ xs) (suc i) zero v w ne at at' =
      let same : f x ≡ f w = ap f (some-injective x w at') in
      let rest = le_total xs i v at in omega arith
  two_le_total (x ∷ xs) (suc i) (suc j) v w ne at at' =
      let rest = two_le_total xs i j v w (λ e. ne (ap suc e)) at at' in omega arith

  -- a sum that is not 0 has a part that is not 0
  pub total_some : (xs : List A) → 0 < total f xs
      → (i : ℕ) × (v : A) × (get_elem? xs i ≡ some v) × (0 < f v)
  total_some [] some_there = absurd (omega arith)
  total_some (x ∷ xs) some_there = ⊎_elim
      (λ none. let rest = total_some xs (omega arith) in (suc rest.0, rest.1, rest.2, rest.3))
      (λ ne. (0, x, refl, omega arith))
      (cases_eq (f x) 0)
