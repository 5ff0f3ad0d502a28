-- How many there are of what is numbered from 0 on.
use Rattle.std.proofs.Common.{◌≡◌, ℕ, List, map, length, ap, sym, ◌∙◌}
use Rattle.std.specs.List.{range_with_len}
use Rattle.std.proofs.lemmas.List.{length-map}
use Rattle.std.proofs.lemmas.List.FromFn.{length-range_with_len}

pub length-numbered : {X : Type 0} (number_of : X → ℕ) (xs : List X) (count : ℕ)
    → map number_of xs ≡ range_with_len 0 count → length xs ≡ count
length-numbered number_of xs count is =
    sym (length-map xs number_of) ∙ (ap length is ∙ length-range_with_len 0 count)
