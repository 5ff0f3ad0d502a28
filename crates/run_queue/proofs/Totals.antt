-- Sums over lists, and which element a view names.
use Rattle.std.proofs.Common.{if◌then◌else◌, ◌≤◌, ◌≡◌, ◌≢◌, ℕ, zero, suc, ◌+◌, List, [], ◌∷◌, ◌++◌}
use Rattle.std.proofs.Common.{Some, set, sym, ap, refl, eq-eqb, ne_eqb, arith}
use mathlib.Core.Option.{some, some-injective, some-ne-none}
use lib.ListN.{get_elem?}
use Rattle.run_queue.specs.Bag.{total}
use Rattle.run_queue.specs.Views.{names}

-- the total after a change of one
pub total_set : {A : Type 0} (f : A → ℕ) (xs : List A) (i : ℕ) (v w : A) → get_elem? xs i ≡ some v
    → total f (set xs i w) + f v ≡ total f xs + f w
total_set f [] i v w e = absurd (some-ne-none v (sym e))
total_set f (x ∷ xs) zero v w e =
    let is : f x ≡ f v = ap f (some-injective x v e) in
    omega arith
total_set f (x ∷ xs) (suc i) v w e =
    let r = total_set f xs i v w e in
    omega arith

pub total_append : {A : Type 0} (f : A → ℕ) (xs ys : List A)
    → total f (xs ++ ys) ≡ total f xs + total f ys
total_append f [] ys = omega arith
total_append f (x ∷ xs) ys =
    let r = total_append f xs ys in
    omega arith

pub total_last : {A : Type 0} (f : A → ℕ) (xs : List A) (x : A)
    → total f (xs ++ x ∷ []) ≡ total f xs + f x
total_last f xs x =
    let r = total_append f xs (x ∷ []) in
    omega arith

pub at_most_total : {A : Type 0} (f : A → ℕ) (xs : List A) (i : ℕ) (v : A)
    → get_elem? xs i ≡ some v → f v ≤ total f xs
at_most_total f [] i v e = absurd (some-ne-none v (sym e))
at_most_total f (x ∷ xs) zero v e =
    let is : f x ≡ f v = ap f (some-injective x v e) in
    omega arith
at_most_total f (x ∷ xs) (suc i) v e =
    let r = at_most_total f xs i v e in
    omega arith

-- a view with no part adds nothing
total_none : {A : Type 0} (g f : A → ℕ) (xs : List A)
    → ((j : ℕ) (u : A) → get_elem? xs j ≡ some u → g u ≡ 0 → f u ≡ 0) → total g xs ≡ 0
    → total f xs ≡ 0
total_none g f [] only none = refl
total_none g f (x ∷ xs) only none =
    let a = only zero x refl (omega arith) in
    let r = total_none g f xs (λ j u e. only (suc j) u e) (omega arith) in
    omega arith

-- a view with every part has the total
pub total_alone : {A : Type 0} (g f : A → ℕ) (xs : List A) (i : ℕ) (v : A)
    → ((j : ℕ) (u : A) → get_elem? xs j ≡ some u → g u ≡ 0 → f u ≡ 0) → get_elem? xs i ≡ some v
    → total g xs ≡ g v → total f xs ≡ f v
total_alone g f [] i v only e all = absurd (some-ne-none v (sym e))
total_alone g f (x ∷ xs) zero v only e all =
    let is : f x ≡ f v = ap f (some-injective x v e) in
    let is' : g x ≡ g v = ap g (some-injective x v e) in
    let r = total_none g f xs (λ j u at. only (suc j) u at) (omega arith) in
    omega arith
total_alone g f (x ∷ xs) (suc i) v only e all =
    let few = at_most_total g xs i v e in
    let a = only zero x refl (omega arith) in
    let r = total_alone g f xs i v (λ j u at. only (suc j) u at) e (omega arith) in
    omega arith

pub names_same : (i : ℕ) → names i (Some i) ≡ 1
names_same i = ap (λ b. if b then 1 else 0) (eq-eqb i i refl)

pub names_other : (i j : ℕ) → j ≢ i → names j (Some i) ≡ 0
names_other i j other = ap (λ b. if b then 1 else 0) (ne_eqb i j (λ e. other (sym e)))

pub total_below : {A : Type 0} (f g : A → ℕ) (xs : List A)
    → ((i : ℕ) (x : A) → get_elem? xs i ≡ some x → f x ≤ g x) → total f xs ≤ total g xs
total_below f g [] le = omega arith
total_below f g (x ∷ xs) le =
    let a = le zero x refl in
    let r = total_below f g xs (λ i y e. le (suc i) y e) in
    omega arith
