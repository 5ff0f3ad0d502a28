-- The indices of the axes that are named from here on.
use Rattle.std.proofs.Common.{◌≡◌, drop, length, map}
use Rattle.tensor_terms.specs.Movement.{scattered}
use Rattle.tensor_terms.proofs.index.moved_index.scattered.Given as goal

abbrev pub invariant-loop-k : goal.invariant-loop-k
invariant-loop-k l =
    (l.read.items ≡ scattered (drop l.k l.order) (drop l.k l.index) (map (λ d. 0) l.sizes))
    × (length l.read.items ≡ length l.sizes)
