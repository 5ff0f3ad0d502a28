-- The leaves of trees, and of what a pool leaves of one.
use Rattle.std.proofs.Common.{◌≡◌, ℕ, zero, suc, ◌+◌, ◌-◌, ◌<◌, ◌≤◌, refl, arith}
use Rattle.uses.specs.Trees.{leaves_of}

-- a low tree is a leaf
pub leaves_of-low : (height : ℕ) → height < 2 → 1 ≡ leaves_of height
leaves_of-low zero low = refl
leaves_of-low (suc zero) low = refl
leaves_of-low (suc (suc n)) low = absurd (omega arith)

-- a high tree has the leaves of its kids
pub leaves_of-high : (height : ℕ) → 2 ≤ height
    → leaves_of height ≡ leaves_of (height - 1) + leaves_of (height - 2)
leaves_of-high zero high = absurd (omega arith)
leaves_of-high (suc zero) high = absurd (omega arith)
leaves_of-high (suc (suc n)) high =
    let one : suc (suc n) - 1 ≡ suc n = omega arith in
    let two : suc (suc n) - 2 ≡ n = omega arith in
    rw (one, two) refl
