-- Lists over runs of places.
use Rattle.std.proofs.Common.{◌≡◌, ℕ, zero, suc, ◌+◌, ◌<◌, ◌∷◌, ◌++◌, map}
use Rattle.std.proofs.Common.{refl, ap, ◌∙◌, arith, add-zero}
use Rattle.std.specs.List.{range_with_len}

-- two functions that agree, each from its own start
pub map-shifted : {X : Type 0} (f g : ℕ → X) (a b n : ℕ)
    → ((k : ℕ) → k < n → f (a + k) ≡ g (b + k))
    → map f (range_with_len a n) ≡ map g (range_with_len b n)
map-shifted f g a b zero h = refl
map-shifted f g a b (suc n) h =
    let first : f a ≡ g b = rw (← add-zero a, ← add-zero b) (h 0 (omega arith)) in
    let rest : map f (range_with_len (a + 1) n) ≡ map g (range_with_len (b + 1) n) =
    map-shifted f g (a + 1) (b + 1) n
    (λ k below. ap f (omega arith) ∙ h (k + 1) (omega arith) ∙ ap g (omega arith)) in
    (cc)

-- a run after a run
pub map-joined : {X : Type 0} (f : ℕ → X) (a n m : ℕ)
    → map f (range_with_len a n) ++ map f (range_with_len (a + n) m)
    ≡ map f (range_with_len a (n + m))
map-joined f a zero m =
    ap (λ b. map f (range_with_len b m)) (omega arith)
    ∙ ap (λ k. map f (range_with_len a k)) (omega arith)
map-joined f a (suc n) m =
    let rest = map-joined f (a + 1) n m in
    let start : a + 1 + n ≡ a + suc n = omega arith in
    let long : suc n + m ≡ suc (n + m) = omega arith in
    rw (long, ← start) (ap (λ l. f a ∷ l) rest)
