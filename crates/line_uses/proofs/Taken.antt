-- The bytes that a read takes from a list, from a place on.
use Rattle.std.proofs.Common.{◌≡◌, ◌≤◌, ◌+◌, ℕ, List, [], ◌++◌, length, take, drop, min, ap, sym, ◌∙◌, arith}
use Rattle.std.proofs.Math.Seq.{take-add}
use Rattle.std.proofs.lemmas.List.{take-append-drop, drop-drop, take_at, length-take, length-drop, drop_all}

pub given : (xs ys zs : List ℕ) (start count : ℕ) → start + count ≤ length xs → ys ≡ take count (drop start xs) → take count (ys ++ zs) ≡ take count (drop start xs)
given xs ys zs start count within is =
    let len : length ys ≡ count = ap length is ∙ length-take count (drop start xs) ∙ shorter xs start count within in
    take_at ys zs count len ∙ is
  where
    shorter : (xs : List ℕ) (start count : ℕ) → start + count ≤ length xs → min count (length (drop start xs)) ≡ count
    shorter xs start count within = omega (arith, length-drop start xs)

pub drop-given : (xs ys zs : List ℕ) (start count : ℕ) → start + count ≤ length xs → ys ≡ take count (drop start xs)
    → drop start xs ≡ take count (ys ++ zs) ++ drop (start + count) xs
drop-given xs ys zs start count within is =
    sym (take-append-drop count (drop start xs))
    ∙ ap (λ (l : List ℕ). take count (drop start xs) ++ l) (drop-drop count start xs)
    ∙ ap (λ (l : List ℕ). l ++ drop (start + count) xs) (sym (given xs ys zs start count within is))

pub take-given : (xs ys zs : List ℕ) (start count : ℕ) → start + count ≤ length xs → ys ≡ take count (drop start xs)
    → take (start + count) xs ≡ take start xs ++ take count (ys ++ zs)
take-given xs ys zs start count within is =
    take-add start count xs ∙ ap (λ (l : List ℕ). take start xs ++ l) (sym (given xs ys zs start count within is))

pub none_left : (xs : List ℕ) (start count : ℕ) → length xs ≤ start + count → drop (start + count) xs ≡ []
none_left xs start count past = drop_all (start + count) xs past
