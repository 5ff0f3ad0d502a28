-- Totals over views, and lists in which one view changes.
use Rattle.std.proofs.Common.{◌≡◌, ◌⊎◌, ℕ, zero, suc, ◌+◌, ◌≤◌, List, [], ◌∷◌, ◌++◌, set, sym, ap}
use Rattle.std.proofs.Common.{inl, inr, arith, Contains}
use Rattle.std.specs.Prelude.{All}
use mathlib.Core.Option.{some, some-injective, some-ne-none}
use lib.ListN.{get_elem?}
use Rattle.pool_barrier.specs.declared.view.View.{View}
use Rattle.pool_barrier.specs.BarrierWord.{total}

-- the total after a change of one view
pub total-set : (f : View → ℕ) (views : List View) (id : ℕ) (v w : View)
    → get_elem? views id ≡ some v
    → total f (set views id w) + f v ≡ total f views + f w
total-set f [] id v w at = absurd (some-ne-none v (sym at))
total-set f (x ∷ xs) zero v w at =
    let same : f x ≡ f v = ap f (some-injective x v at) in omega arith
total-set f (x ∷ xs) (suc id) v w at = let rest = total-set f xs id v w at in omega arith

-- the total with one more view
pub total-append : (f : View → ℕ) (views : List View) (w : View)
    → total f (views ++ w ∷ []) ≡ total f views + f w
total-append f [] w = omega arith
total-append f (x ∷ xs) w = let rest = total-append f xs w in omega arith

-- one view's part is at most the total
pub le_total : (f : View → ℕ) (views : List View) (id : ℕ) (v : View)
    → get_elem? views id ≡ some v
    → f v ≤ total f views
le_total f [] id v at = absurd (some-ne-none v (sym at))
le_total f (x ∷ xs) zero v at =
    let same : f x ≡ f v = ap f (some-injective x v at) in omega arith
le_total f (x ∷ xs) (suc id) v at = let rest = le_total f xs id v at in omega arith

-- a total of smaller parts is the smaller one
total_mono : (f g : View → ℕ) → ((v : View) → f v ≤ g v) → (views : List View)
    → total f views ≤ total g views
total_mono f g le [] = omega arith
total_mono f g le (x ∷ xs) =
    let here = le x in
    let rest = total_mono f g le xs in
    omega arith

-- the totals of all views but one
pub total_mono_but : (f g : View → ℕ) → ((v : View) → f v ≤ g v)
    → (views : List View) (id : ℕ) (v : View)
    → get_elem? views id ≡ some v
    → total f views + g v ≤ total g views + f v
total_mono_but f g le [] id v at = absurd (some-ne-none v (sym at))
total_mono_but f g le (x ∷ xs) zero v at =
    let same : f x ≡ f v = ap f (some-injective x v at) in
    let same' : g x ≡ g v = ap g (some-injective x v at) in
    let rest = total_mono f g le xs in
    omega arith
total_mono_but f g le (x ∷ xs) (suc id) v at =
    let here = le x in
    let rest = total_mono_but f g le xs id v at in
    omega arith

-- where a total is 0 each part is
pub All-total : (f : View → ℕ) (views : List View)
    → total f views ≡ 0
    → All (λ v. f v ≡ 0) views
All-total f [] none k d within = absurd (omega arith)
All-total f (x ∷ xs) none zero d within = omega arith
All-total f (x ∷ xs) none (suc k) d within = All-total f xs (omega arith) k d (omega arith)

-- a view that stands in the list after a change is the new one, or stood there
pub Contains-set : (views : List View) (id : ℕ) (w x : View)
    → Contains (set views id w) x
    → (w ≡ x) ⊎ Contains views x
Contains-set [] id w x (k, within, is) = inr (k, within, is)
Contains-set (y ∷ ys) zero w x (zero, within, is) = inl is
Contains-set (y ∷ ys) zero w x (suc k, within, is) = inr (suc k, within, is)
Contains-set (y ∷ ys) (suc id) w x (zero, within, is) = inr (zero, omega arith, is)
Contains-set (y ∷ ys) (suc id) w x (suc k, within, is) =
    elim (Contains-set ys id w x (k, omega arith, is)) [
      | inl new ↦ inl new
      | inr old ↦ inr (suc old.0, omega (arith, old.1), old.2)
    ]

-- a view that stands in the list with one more is that one, or stood there
pub Contains-append : (views : List View) (w x : View)
    → Contains (views ++ w ∷ []) x
    → (w ≡ x) ⊎ Contains views x
Contains-append [] w x (zero, within, is) = inl is
Contains-append [] w x (suc k, within, is) = absurd (omega arith)
Contains-append (y ∷ ys) w x (zero, within, is) = inr (zero, omega arith, is)
Contains-append (y ∷ ys) w x (suc k, within, is) =
    elim (Contains-append ys w x (k, omega arith, is)) [
      | inl new ↦ inl new
      | inr old ↦ inr (suc old.0, omega (arith, old.1), old.2)
    ]
