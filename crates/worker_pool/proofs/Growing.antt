-- Facts about lists that a loop goes through or fills.
use Rattle.std.proofs.Common.{◌≡◌, List, [], ◌∷◌, ◌++◌, All}
use Rattle.std.proofs.Common.{subst, sym, ap, ◌∙◌, length, ◌+◌}
use Rattle.std.proofs.lemmas.List.{length_push}
use Rattle.std.proofs.lemmas.List.Elements.{All-append, All-nil, All-cons, All-head, All-tail}

-- a list that gets one item more at its end
pub length-snoc : {X : Type 0} (xs : List X) (x : X) (ys : List X) → ys ≡ xs ++ x ∷ []
    → length ys ≡ length xs + 1
length-snoc xs x ys is = ap length is ∙ length_push xs x

module _ {X : Type 0} (P : X → Type 0) where
  -- what holds of each item holds of each that is left behind the first
  pub All-rest : (xs : List X) (x : X) (ys : List X) → xs ≡ x ∷ ys → All P xs → All P ys
  All-rest xs x ys is all = All-tail P x ys (subst (λ zs. All P zs) is all)

  -- and of the first
  pub All-first : (xs : List X) (x : X) (ys : List X) → xs ≡ x ∷ ys → All P xs → P x
  All-first xs x ys is all = All-head P x ys (subst (λ zs. All P zs) is all)

  -- a list that gets one item more at its end
  pub All-snoc : (xs : List X) (x : X) (ys : List X) → ys ≡ xs ++ x ∷ [] → All P xs → P x
      → All P ys
  All-snoc xs x ys is all one =
      subst (λ zs. All P zs) (sym is)
      (All-append P xs (x ∷ []) all (All-cons P x [] one (All-nil P)))

  front : (xs ys : List X) → All P (xs ++ ys) → All P xs
  front [] ys all = All-nil P
  front (x ∷ xs) ys all =
      All-cons P x xs (All-head P x (xs ++ ys) all) (front xs ys (All-tail P x (xs ++ ys) all))

  last : (xs : List X) (x : X) → All P (xs ++ x ∷ []) → P x
  last [] x all = All-head P x [] all
  last (y ∷ ys) x all = last ys x (All-tail P y (ys ++ x ∷ []) all)

  -- a list from which the last item was taken
  pub All-front : (zs xs : List X) (x : X) → zs ≡ xs ++ x ∷ [] → All P zs → All P xs
  All-front zs xs x is all = front xs (x ∷ []) (subst (λ ys. All P ys) is all)

  -- and that item
  pub All-last : (zs xs : List X) (x : X) → zs ≡ xs ++ x ∷ [] → All P zs → P x
  All-last zs xs x is all = last xs x (subst (λ ys. All P ys) is all)
