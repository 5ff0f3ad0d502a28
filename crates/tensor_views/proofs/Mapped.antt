-- Lists that are filled with what a function makes of another list's items.
use Rattle.std.proofs.Common.{◌≡◌, ℕ, ◌+◌, ◌<◌, ◌≤◌, List, [], ◌∷◌, ◌++◌, length, map, take, get_or}
use Rattle.std.proofs.Common.{ap, sym, ◌∙◌}
use Rattle.std.proofs.lemmas.List.{length-map, length-take-le, map_more}

module _ {X Y : Type 0} (f : X → Y) (xs : List X) (i : ℕ) (ys : List Y)
    (before : ys ≡ map f (take i xs)) where
  -- one more
  pub mapped-more : (d : X) (y : Y) (zs : List Y) → i < length xs → zs ≡ ys ++ y ∷ []
      → y ≡ f (get_or xs i d) → zs ≡ map f (take (i + 1) xs)
  mapped-more d y zs within pushed here =
      pushed ∙ ap (λ l. l ++ y ∷ []) before ∙ ap (λ z. map f (take i xs) ++ z ∷ []) here
      ∙ sym (map_more f xs i d within)

  -- how many there are
  pub mapped-length : i ≤ length xs → length ys ≡ i
  mapped-length within =
      ap length before ∙ length-map (take i xs) f ∙ length-take-le i xs within
