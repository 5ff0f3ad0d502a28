-- The places at which values are asked for.
use Rattle.std.specs.Prelude.{ℕ, ◌-◌, ◌<◌, ◌≤◌, List, length, slice_index}
use Rattle.std.specs.List.{range_with_len}
use Rattle.tensor_views.specs.declared.places.Places.{Places}
use Rattle.tensor_views.specs.declared.places.Places.TheVariants.{Run, Listed}

-- the places, in order
abbrev pub places_of : Places → List ℕ
places_of (Run first last) = range_with_len first (last - first)
places_of (Listed places) = places.now

-- all places are below a number
abbrev pub AreBelow : Places → ℕ → Type 0
AreBelow (Run first last) n = (first ≤ last) × (last ≤ n)
AreBelow (Listed places) n = (k : ℕ) → k < length places.now → slice_index places.now k < n
