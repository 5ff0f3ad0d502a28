-- Lists of items, one for each place of a range.
use Rattle.std.specs.Prelude.{◌≡◌, ℕ, ◌-◌, List, map}
use Rattle.std.specs.List.{range_with_len}

-- a function's items at the places in [first, last), in order
abbrev pub AreItems : {I : Type 0} → (ℕ → I) → (first last : ℕ) → List I → Type 0
AreItems item_at first last items = items ≡ map item_at (range_with_len first (last - first))
