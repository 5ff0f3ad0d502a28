-- Facts about lists that a loop goes through or fills.
use Rattle.std.proofs.Common.{◌≡◌, ℕ, ◌+◌, List, [], ◌∷◌, ◌++◌, All, map}
use Rattle.std.proofs.Common.{subst, sym, ap, ◌∙◌, arith, length}
use Rattle.std.specs.List.{flat_map, range_with_len}
use Rattle.std.proofs.lemmas.List.FromFn.{length-range_with_len}
use Rattle.std.proofs.lemmas.List.{length_push, append-nil, length-map}
use Rattle.std.proofs.lemmas.List.Elements.{All-append, All-nil, All-cons, All-head, All-tail}
use Rattle.run_queue.specs.Bag.{total}

-- a list that gets one item more at its end
pub length-snoc : {X : Type 0} (xs : List X) (x : X) (ys : List X) → ys ≡ xs ++ x ∷ []
    → length ys ≡ length xs + 1
length-snoc xs x ys is = ap length is ∙ length_push xs x

module _ {X : Type 0} (P : X → Type 0) where
  pub All-rest : (xs : List X) (x : X) (ys : List X) → xs ≡ x ∷ ys → All P xs → All P ys
  All-rest xs x ys is all = All-tail P x ys (subst (λ zs. All P zs) is all)

  pub All-first : (xs : List X) (x : X) (ys : List X) → xs ≡ x ∷ ys → All P xs → P x
  All-first xs x ys is all = All-head P x ys (subst (λ zs. All P zs) is all)

  pub All-snoc : (xs : List X) (x : X) (ys : List X) → ys ≡ xs ++ x ∷ [] → All P xs → P x
      → All P ys
  All-snoc xs x ys is all one =
      subst (λ zs. All P zs) (sym is)
      (All-append P xs (x ∷ []) all (All-cons P x [] one (All-nil P)))

  front : (xs ys : List X) → All P (xs ++ ys) → All P xs
  front [] ys all = All-nil P
  front (x ∷ xs) ys all =
      All-cons P x xs (All-head P x (xs ++ ys) all) (front xs ys (All-tail P x (xs ++ ys) all))

  last : (xs : List X) (x : X) → All P (xs ++ x ∷ []) → P x
  last [] x all = All-head P x [] all
  last (y ∷ ys) x all = last ys x (All-tail P y (ys ++ x ∷ []) all)

  pub All-front : (zs xs : List X) (x : X) → zs ≡ xs ++ x ∷ [] → All P zs → All P xs
  All-front zs xs x is all = front xs (x ∷ []) (subst (λ ys. All P ys) is all)

  pub All-last : (zs xs : List X) (x : X) → zs ≡ xs ++ x ∷ [] → All P zs → P x
  All-last zs xs x is all = last xs x (subst (λ ys. All P ys) is all)

pub total_append : {A : Type 0} (f : A → ℕ) (xs ys : List A)
    → total f (xs ++ ys) ≡ total f xs + total f ys
total_append f [] ys = omega arith
total_append f (x ∷ xs) ys =
    let r = total_append f xs ys in
    omega arith

-- how many there are of what is numbered from 0 on
pub length-numbered : {X : Type 0} (number_of : X → ℕ) (xs : List X) (count : ℕ)
    → map number_of xs ≡ range_with_len 0 count → length xs ≡ count
length-numbered number_of xs count is =
    sym (length-map xs number_of) ∙ (ap length is ∙ length-range_with_len 0 count)

-- the weight of what one more item has
pub total_flat : {X J : Type 0} (h : J → ℕ) (f : X → List J) (xs ys : List X) (x : X)
    → ys ≡ xs ++ x ∷ [] → total h (flat_map f ys) ≡ total h (flat_map f xs) + total h (f x)
total_flat {X = X} {J = J} h f xs ys x is = ap (λ zs. total h (flat_map f zs)) is ∙ here xs
  where
    here : (zs : List X) → total h (flat_map f (zs ++ x ∷ [])) ≡ total h (flat_map f zs) + total h (f x)
    here [] =
        let r = total_append h (f x) [] in
        omega arith
    here (z ∷ zs) =
        let a = total_append h (f z) (flat_map f (zs ++ x ∷ [])) in
        let b = total_append h (f z) (flat_map f zs) in
        let r = here zs in
        omega arith

-- weights of what a function gives
pub total_map : {X J : Type 0} (h : J → ℕ) (f : X → J) (xs : List X)
    → total h (map f xs) ≡ total (λ x. h (f x)) xs
total_map h f [] = omega arith
total_map h f (x ∷ xs) =
    let r = total_map h f xs in
    omega arith

-- where nothing is left, all is done
pub nothing-left : {X Y : Type 0} (f : X → Y) (done : List Y) (left : List X) (all : List Y)
    → length left ≡ 0 → done ++ map f left ≡ all → done ≡ all
nothing-left f done [] all none is = sym (append-nil done) ∙ is
nothing-left f done (x ∷ xs) all none is = absurd (omega arith)
