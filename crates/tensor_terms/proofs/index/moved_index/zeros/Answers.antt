use Rattle.std.proofs.Common.{◌≡◌, ℕ, zero, suc, ◌<◌, List, [], ◌∷◌, ◌++◌, length, map, take, refl, ap, ◌∙◌, add-one, arith}
use Rattle.tensor_terms.proofs.index.moved_index.zeros.Goals as goal

-- one more zero
zeros-more : (ds : List ℕ) (i : ℕ) → i < length ds → map {B = ℕ} (λ d. 0) (take (suc i) ds) ≡ map {B = ℕ} (λ d. 0) (take i ds) ++ 0 ∷ []
zeros-more [] i within = absurd (omega arith)
zeros-more (d ∷ ds) zero within = refl
zeros-more (d ∷ ds) (suc i) within = ap (λ l. 0 ∷ l) (zeros-more ds i (omega arith))

pub loop-size-preserved : goal.loop-size-preserved
loop-size-preserved c =
    let more = zeros-more c.args.sizes.now c.loop-size._size-index (omega arith) in
    rw (add-one, more) (c.push.ensures.items ∙ ap (λ l. l ++ 0 ∷ []) c.loop-size.invariant)
