-- Which elements are of a row, and sums over lists by place.
use Rattle.std.proofs.Common.{Bool, true, false, if◌then◌else◌, ◌≡◌, ◌≢◌, ◌==◌, ℕ, zero, suc, ◌+◌}
use Rattle.std.proofs.Common.{◌/◌, ◌≤◌, List, [], ◌∷◌, length, set, sym, refl, ap, ◌∙◌, eq-eqb}
use Rattle.std.proofs.Common.{ne_eqb, arith}
use mathlib.Core.Option.{some, some-injective, some-ne-none}
use lib.ListN.{get_elem?}
use Rattle.run_queue.specs.Lengths.{in_row, total_at}

pub in_row_same : (k : ℕ) → in_row (k / 1024) k ≡ 1
in_row_same k = ap (λ b. if b then 1 else 0) (eq-eqb (k / 1024) (k / 1024) refl)

pub in_row_other : (r k : ℕ) → r ≢ k / 1024 → in_row r k ≡ 0
in_row_other r k other =
    ap (λ b. if b then 1 else 0) (ne_eqb (k / 1024) r (λ e. other (sym e)))

pub in_row_small : (r k : ℕ) → in_row r k ≤ 1
in_row_small r k = small (k / 1024 == r)
  where
    small : (b : Bool) → (if b then 1 else 0) ≤ 1
    small true = omega arith
    small false = omega arith

-- the total after a change of one
pub total_at_set : {A : Type 0} (f : ℕ → A → ℕ) (k : ℕ) (xs : List A) (i j : ℕ) (v w : A)
    → j ≡ k + i → get_elem? xs i ≡ some v
    → total_at f k (set xs i w) + f j v ≡ total_at f k xs + f j w
total_at_set f k [] i j v w is e = absurd (some-ne-none v (sym e))
total_at_set f k (x ∷ xs) zero j v w is e =
    let same : k ≡ j = omega arith in
    let a : f k x ≡ f j v = ap (λ n. f n x) same ∙ ap (f j) (some-injective x v e) in
    let b : f k w ≡ f j w = ap (λ n. f n w) same in
    omega arith
total_at_set f k (x ∷ xs) (suc i) j v w is e =
    let r = total_at_set f (suc k) xs i j v w (omega arith) e in
    omega arith

-- where each adds at most 1
pub total_at_below : {A : Type 0} (f : ℕ → A → ℕ) (k : ℕ) (xs : List A)
    → ((n : ℕ) (x : A) → f n x ≤ 1) → total_at f k xs ≤ length xs
total_at_below f k [] one = omega arith
total_at_below f k (x ∷ xs) one =
    let a = one k x in
    let r = total_at_below f (suc k) xs one in
    omega arith

-- where none adds anything
pub total_at_none : {A : Type 0} (f : ℕ → A → ℕ) (k : ℕ) (xs : List A)
    → ((j : ℕ) (x : A) → k ≤ j → f j x ≡ 0) → total_at f k xs ≡ 0
total_at_none f k [] none = refl
total_at_none f k (x ∷ xs) none =
    let a = none k x (omega arith) in
    let r = total_at_none f (suc k) xs (λ j y le. none j y (omega arith)) in
    omega arith
