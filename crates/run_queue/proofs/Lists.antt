-- What holds of each element of a list with one more, and its weight.
use Rattle.std.proofs.Common.{◌≡◌, ℕ, zero, suc, ◌+◌, List, [], ◌∷◌, ◌++◌, length, map, refl}
use Rattle.std.proofs.Common.{sym, subst, arith}
use Rattle.std.proofs.lemmas.List.Elements.{All-append}
use Rattle.std.specs.Prelude.{All}
use Rattle.std.specs.List.{flat_map}
use Rattle.run_queue.specs.Bag.{total}
use Rattle.run_queue.proofs.Totals.{total_append}

all_one : {X : Type 0} (P : X → Type 0) (x : X) → P x → All P (x ∷ [])
all_one P x p zero d lt = p
all_one P x p (suc k) d lt = absurd (omega arith)

pub all_more : {X : Type 0} (P : X → Type 0) (xs ys : List X) (x : X) → ys ≡ xs ++ x ∷ []
    → All P xs → P x → All P ys
all_more P xs ys x is all p =
    subst (All P) (sym is) (All-append P xs (x ∷ []) all (all_one P x p))

pub all_before : {X : Type 0} (P : X → Type 0) (xs ys : List X) → All P (xs ++ ys) → All P xs
all_before P [] ys all k d lt = absurd (omega arith)
all_before P (x ∷ xs) ys all zero d lt = all zero d (omega arith)
all_before P (x ∷ xs) ys all (suc k) d lt =
    all_before P xs ys (λ j e le. all (suc j) e (omega arith)) k d (omega arith)

pub all_last : {X : Type 0} (P : X → Type 0) (xs : List X) (x : X) → All P (xs ++ x ∷ []) → P x
all_last P [] x all = all zero x (omega arith)
all_last P (y ∷ xs) x all = all_last P xs x (λ j e le. all (suc j) e (omega arith))

pub total_flat : {X J : Type 0} (h : J → ℕ) (f : X → List J) (xs : List X) (x : X)
    → total h (flat_map f (xs ++ x ∷ [])) ≡ total h (flat_map f xs) + total h (f x)
total_flat h f [] x =
    let a = total_append h (f x) [] in
    omega arith
total_flat h f (y ∷ xs) x =
    let a = total_append h (f y) (flat_map f (xs ++ x ∷ [])) in
    let b = total_append h (f y) (flat_map f xs) in
    let r = total_flat h f xs x in
    omega arith

pub map_long : {X Y : Type 0} (f : X → Y) (xs : List X) → length (map f xs) ≡ length xs
map_long f [] = refl
map_long f (x ∷ xs) =
    let r = map_long f xs in
    omega arith

pub snoc_long : {X : Type 0} (xs : List X) (x : X) → length (xs ++ x ∷ []) ≡ length xs + 1
snoc_long [] x = refl
snoc_long (y ∷ xs) x =
    let r = snoc_long xs x in
    omega arith
