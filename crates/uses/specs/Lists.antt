-- Lists that are compared place by place.
use Rattle.std.specs.Prelude.{◌≡◌, ℕ, ◌<◌, List, length, slice_index_or}

-- at each place, f of the item of xs is g of the item of ys
abbrev pub Agree : {X Y Z : Type 0} → (X → Z) → (Y → Z) → List X → List Y → Type 0
Agree {X} {Y} f g xs ys = (i : ℕ) (d : X) (e : Y) → i < length xs
    → f (slice_index_or xs i d) ≡ g (slice_index_or ys i e)
