-- Lists that are read item by item.
use Rattle.std.proofs.Common.{◌≡◌, List, [], ◌∷◌, ◌++◌, Option, Some, None, option_map, refl, ap, append_assoc}
use Rattle.prepared_expressions.specs.private.Made.{cons_of}

-- what was taken, before the rest
abbrev pub after : {A : Type 0} → List A → Option (List A) → Option (List A)
after done rest = option_map (λ more. done ++ more) rest

-- nothing was taken yet
pub after-nothing : {A : Type 0} (rest : Option (List A)) → after [] rest ≡ rest
after-nothing None = refl
after-nothing (Some xs) = refl

-- one item more was taken, behind those that were
pub after-cons_of : {A : Type 0} (done : List A) (x : A) (rest : Option (List A)) → after done (cons_of (Some x) rest) ≡ after (done ++ x ∷ []) rest
after-cons_of done x None = refl
after-cons_of done x (Some xs) = ap Some (simp append_assoc)

-- an item that is none
pub after-none : {A : Type 0} (done : List A) (x : Option A) (rest : Option (List A)) → x ≡ None → after done (cons_of x rest) ≡ None
after-none done x rest is = rw is refl
