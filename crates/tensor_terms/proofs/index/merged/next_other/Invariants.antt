use Rattle.std.proofs.Common.{◌≡◌, ℕ, ◌<◌, ◌≤◌, true}
use Rattle.tensor_terms.specs.Movement.{is_among}
use Rattle.tensor_terms.proofs.index.merged.next_other.Given as goal

abbrev pub invariant-loop-axis : goal.invariant-loop-axis
invariant-loop-axis l = (k : ℕ) → l.from ≤ k → k < l.axis → is_among k l.axes ≡ true
