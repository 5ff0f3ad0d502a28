-- Trees with two kids, which are one lower and two lower than the tree.
use Rattle.std.specs.Prelude.{◌≡◌, ℕ, zero, suc, ◌+◌}
use Rattle.worker_pool.specs.declared.job.Progress.{Progress}
use Rattle.worker_pool.specs.declared.job.Progress.TheVariants.{Fork, Done}

-- how many leaves the tree of a height has
abbrev pub leaves_of : ℕ → ℕ
leaves_of zero = 1
leaves_of (suc zero) = 1
leaves_of (suc (suc n)) = leaves_of (suc n) + leaves_of n

-- the two parts of a fork have all leaves of the tree together, and the out of a leaf is its number
-- of leaves
abbrev pub KeepsLeaves : {J : Type 0} → (J → ℕ) → J → Progress J ℕ → Type 0
KeepsLeaves height_of tree (Fork kid rest) =
    leaves_of (height_of tree) ≡ leaves_of (height_of rest) + leaves_of (height_of kid)
KeepsLeaves height_of tree (Done out) = out ≡ leaves_of (height_of tree)
