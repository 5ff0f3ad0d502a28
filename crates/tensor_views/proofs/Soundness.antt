-- Places that are asked for are there.
use Rattle.std.proofs.Common.{ℕ, ◌-◌, ◌<◌, length, map, get_or, arith}
use Rattle.std.proofs.lemmas.List.{length-map, get_or-map}
use Rattle.std.proofs.lemmas.List.FromFn.{get_or-range_with_len, length-range_with_len}
use Rattle.tensor_views.specs.Places.{places_of, AreBelow}
use Rattle.tensor_views.specs.declared.places.Places.{Places}
use Rattle.tensor_views.specs.declared.places.Places.TheVariants.{Run, Listed}

-- each of the places is below their limit
pub places-within : (places : Places) (n k : ℕ) → AreBelow places n → k < length (places_of places) → get_or (places_of places) k 0 < n
places-within (Run first last) n k below h =
    let long = length-range_with_len first (last - first) in
    let at = get_or-range_with_len first (last - first) k 0 (omega arith) in
    omega (arith, at, below.0, below.1)
places-within (Listed places) n k below h = below k h

-- so are those that a view reaches
pub reached-within : (m : ℕ → ℕ) (places : Places) (n limit k : ℕ) → AreBelow places n → ((p : ℕ) → p < n → m p < limit)
    → k < length (map m (places_of places)) → get_or (map m (places_of places)) k 0 < limit
reached-within m places n limit k below view h =
    let inside : k < length (places_of places) = omega (arith, length-map (places_of places) m) in
    rw (get_or-map m (places_of places) k 0 0 inside) (view (get_or (places_of places) k 0) (places-within places n k below inside))
