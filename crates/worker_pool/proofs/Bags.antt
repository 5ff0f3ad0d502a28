-- Weights of the jobs of nodes.
use Rattle.std.proofs.Common.{◌≡◌, ℕ, ◌+◌, List, [], ◌∷◌, ◌++◌, map, ap, ◌∙◌, arith}
use Rattle.std.specs.List.{flat_map}
use Rattle.std.proofs.lemmas.List.{map-append}
use Rattle.std.proofs.lemmas.Grind.{flat_map-append}
use Rattle.run_queue.specs.Bag.{total}

pub total-append : {J : Type 0} (weight : J → ℕ) (xs ys : List J)
    → total weight (xs ++ ys) ≡ total weight xs + total weight ys
total-append weight [] ys = omega arith
total-append weight (x ∷ xs) ys = let more = total-append weight xs ys in omega arith

pub total-map-append : {X J : Type 0} (weight : J → ℕ) (f : X → J) (xs ys : List X)
    → total weight (map f (xs ++ ys)) ≡ total weight (map f xs) + total weight (map f ys)
total-map-append weight f xs ys =
    ap (total weight) (map-append f xs ys) ∙ total-append weight (map f xs) (map f ys)

pub total-flat_map-append : {X J : Type 0} (weight : J → ℕ) (f : X → List J) (xs ys : List X)
    → total weight (flat_map f (xs ++ ys))
    ≡ total weight (flat_map f xs) + total weight (flat_map f ys)
total-flat_map-append weight f xs ys =
    ap (total weight) (flat_map-append f xs ys)
    ∙ total-append weight (flat_map f xs) (flat_map f ys)
