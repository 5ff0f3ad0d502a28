-- The steps of indices, one behind another.
use Rattle.std.proofs.Common.{◌≡◌, ℕ, List, [], ◌∷◌, ◌++◌, length, drop, get_or, map, reverse, codes, decimal}
use Rattle.std.proofs.Common.{◌<◌, ap, ◌∙◌, arith}
use Rattle.std.proofs.lemmas.List.{append-nil, map-append, reverse-append}
use Rattle.std.proofs.lemmas.Grind.{flat_map-append}
use Rattle.expr_reader.specs.Place.{index}
use Rattle.fault_reasons.specs.Pointer.{step_text, pointer_of}

-- the last index stands behind those before it
pub pointer_of-last : (before : List ℕ) (last : ℕ)
    → pointer_of (map index (reverse (last ∷ before))) ≡ pointer_of (map index (reverse before)) ++ (codes "/" ++ decimal last)
pointer_of-last before last =
    ap (λ l. pointer_of (map index l)) (reverse-append (last ∷ []) before)
    ∙ ap pointer_of (map-append index (reverse before) (last ∷ []))
    ∙ flat_map-append step_text (map index (reverse before)) (index last ∷ [])
    ∙ ap (λ l. pointer_of (map index (reverse before)) ++ l) (append-nil (codes "/" ++ decimal last))

pub pointer_of-from : (indices : List ℕ) (d : ℕ) → 0 < length indices
    → pointer_of (map index (reverse indices))
    ≡ pointer_of (map index (reverse (drop 1 indices))) ++ (codes "/" ++ decimal (get_or indices 0 d))
pointer_of-from [] d some = absurd (omega arith)
pointer_of-from (x ∷ xs) d some = pointer_of-last xs x
