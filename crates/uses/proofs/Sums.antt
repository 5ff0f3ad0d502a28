-- Sums of numbers, and of numbers of lists.
use Rattle.std.proofs.Common.{◌≡◌, ℕ, zero, suc, ◌<◌, List, [], ◌∷◌, length, get_or, map, refl, arith}
use Rattle.std.specs.Prelude.{sum, sum_by}
use Rattle.std.specs.List.{flat_map}
use Rattle.std.proofs.lemmas.List.Sums.{sum_by-cons, sum_by-append}
use Rattle.run_queue.specs.Bag.{total}

-- numbers that are weighed by themselves
pub total-sum : (numbers : List ℕ) → total (λ n. n) numbers ≡ sum numbers
total-sum [] = refl
total-sum (n ∷ numbers) =
    let rest = total-sum numbers in
    let more = sum_by-cons (λ m. m) n numbers in
    omega arith

-- items that are weighed by a number
pub total-sum_by : {X : Type 0} (f : X → ℕ) (xs : List X) → total f xs ≡ sum_by f xs
total-sum_by f [] = refl
total-sum_by f (x ∷ xs) =
    let rest = total-sum_by f xs in
    let more = sum_by-cons f x xs in
    omega arith

-- the numbers of lists, list by list
pub sum-flat_map : {X : Type 0} (numbers_of : X → List ℕ) (xs : List X)
    → sum (flat_map numbers_of xs) ≡ sum_by (λ x. sum (numbers_of x)) xs
sum-flat_map numbers_of [] = refl
sum-flat_map numbers_of (x ∷ xs) =
    let rest = sum-flat_map numbers_of xs in
    let more = sum_by-cons (λ y. sum (numbers_of y)) x xs in
    let both = sum_by-append (λ n. n) (numbers_of x) (flat_map numbers_of xs) in
    omega arith

-- the sum of mapped items
pub sum_by-map : {X Y : Type 0} (f : Y → ℕ) (g : X → Y) (xs : List X)
    → sum_by f (map g xs) ≡ sum_by (λ x. f (g x)) xs
sum_by-map f g [] = refl
sum_by-map f g (x ∷ xs) =
    let rest = sum_by-map f g xs in
    let one = sum_by-cons f (g x) (map g xs) in
    let other = sum_by-cons (λ y. f (g y)) x xs in
    omega arith

-- sums of items that weigh the same, place by place
pub sum_by-same : {X Y : Type 0} (f : X → ℕ) (g : Y → ℕ) (xs : List X) (ys : List Y)
    → length xs ≡ length ys
    → ((i : ℕ) (d : X) (e : Y) → i < length xs → f (get_or xs i d) ≡ g (get_or ys i e))
    → sum_by f xs ≡ sum_by g ys
sum_by-same f g [] [] same each = refl
sum_by-same f g [] (y ∷ ys) same each = absurd (omega (arith, same))
sum_by-same f g (x ∷ xs) [] same each = absurd (omega (arith, same))
sum_by-same f g (x ∷ xs) (y ∷ ys) same each =
    let here = each zero x y (omega arith) in
    let rest = sum_by-same f g xs ys (omega (arith, same)) (λ i d e below. each (suc i) d e (omega (arith, below))) in
    let one = sum_by-cons f x xs in
    let other = sum_by-cons g y ys in
    omega arith

-- items that weigh nothing
pub sum_by-none : {X : Type 0} (f : X → ℕ) (xs : List X)
    → ((i : ℕ) (d : X) → i < length xs → f (get_or xs i d) ≡ 0) → sum_by f xs ≡ 0
sum_by-none f [] each = refl
sum_by-none f (x ∷ xs) each =
    let here = each zero x (omega arith) in
    let rest = sum_by-none f xs (λ i d below. each (suc i) d (omega (arith, below))) in
    let one = sum_by-cons f x xs in
    omega arith
