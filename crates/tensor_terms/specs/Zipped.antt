-- Two lists combined into one.
use Rattle.std.specs.Prelude.{List, [], ◌∷◌}

-- f of the two values at each place of both lists; the longer list is cut
abbrev pub zip_with : {A B C : Type 0} → (A → B → C) → List A → List B → List C
zip_with f (x ∷ xs) (y ∷ ys) = f x y ∷ zip_with f xs ys
zip_with f xs ys = []
