-- A zero for each size so far.
use Rattle.std.proofs.Common.{◌≡◌, take, map}
use Rattle.tensor_terms.proofs.index.moved_index.zeros.Given as goal

abbrev pub invariant-loop-size : goal.invariant-loop-size
invariant-loop-size l = l.zeros.items ≡ map (λ d. 0) (take l._size-index l.sizes)
