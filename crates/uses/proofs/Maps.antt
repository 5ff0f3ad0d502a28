-- Lists that are made of another, place by place.
use Rattle.std.proofs.Common.{◌≡◌, ℕ, List, map, length, get_or, sym}
use Rattle.std.specs.List.{range_with_len}
use Rattle.std.proofs.lemmas.List.{length-map, get_or-map}
use Rattle.std.proofs.lemmas.List.FromFn.{fill_by_all}

-- what a function makes of the numbers at all places is what it makes of the list
pub map-get_or : (f : ℕ → ℕ) (xs : List ℕ)
    → map (λ place. f (get_or xs place 0)) (range_with_len 0 (length xs)) ≡ map f xs
map-get_or f xs =
    sym (fill_by_all (λ place. f (get_or xs place 0)) (map f xs) (length xs) (f 0)
    (length-map xs f) (λ k inside. get_or-map f xs k 0 (f 0) inside))
