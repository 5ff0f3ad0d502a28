-- Values that become an operation's, row by row.
use Rattle.std.proofs.Common.{◌≡◌, ℕ, ℤ, pos, ◌+◌, ◌-◌, ◌<◌, ◌≤◌, List, length, get_or, set, inl, inr, ap, sym, ◌∙◌, arith}
use Rattle.std.proofs.lemmas.Bool.{cases_eq, cases_lt}
use Rattle.std.proofs.lemmas.List.{get_or-set_same, get_or-set_other}

-- one place more, from a place on
pub placed-more : (f : ℕ → ℤ) (vs : List ℤ) (at k : ℕ) (x : ℤ) → at + k < length vs → x ≡ f k
    → ((j : ℕ) → j < k → get_or vs (at + j) (pos 0) ≡ f j)
    → (j : ℕ) → j < k + 1 → get_or (set vs (at + k) x) (at + j) (pos 0) ≡ f j
placed-more f vs at k x within here before j below =
    elim (cases_eq j k) [
      | inl same ↦ rw same (get_or-set_same vs (at + k) x (pos 0) within ∙ here)
      | inr other ↦ get_or-set_other vs (at + k) (at + j) x (pos 0) (λ e. other (omega (arith, e))) ∙ before j (omega (arith, other))
    ]

-- a row more
pub rows-more : (o : ℤ → ℤ → ℤ) (f g : ℕ → ℤ) (old now new : List ℤ) (at count : ℕ)
    → ((k : ℕ) → k < at → get_or now k (pos 0) ≡ o (get_or old k (pos 0)) (f k))
    → ((k : ℕ) → at ≤ k → get_or now k (pos 0) ≡ get_or old k (pos 0))
    → ((k : ℕ) → k < at → get_or new k (pos 0) ≡ get_or now k (pos 0))
    → ((k : ℕ) → k < count → get_or new (at + k) (pos 0) ≡ o (get_or now (at + k) (pos 0)) (g k))
    → ((k : ℕ) → k < count → g k ≡ f (at + k))
    → (k : ℕ) → k < at + count → get_or new k (pos 0) ≡ o (get_or old k (pos 0)) (f k)
rows-more o f g old now new at count done left kept row same k below =
    elim (cases_lt k at) [
      | inl under ↦ kept k under ∙ done k under
      | inr over ↦
          let place : at + (k - at) ≡ k = omega (arith, over) in
          let inside : k - at < count = omega (arith, over, below) in
          ap (λ j. get_or new j (pos 0)) (sym place) ∙ row (k - at) inside
          ∙ ap (λ j. o (get_or now j (pos 0)) (g (k - at))) place ∙ ap (λ x. o x (g (k - at))) (left k over)
          ∙ ap (λ y. o (get_or old k (pos 0)) y) (same (k - at) inside ∙ ap f place)
    ]
