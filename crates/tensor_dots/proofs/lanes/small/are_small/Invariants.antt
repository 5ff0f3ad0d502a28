-- The values so far fit.
use Rattle.std.proofs.Common.{ℕ, ◌<◌, FitsSigned}
use Rattle.std.specs.Int.{w32}
use Rattle.tensor_values.specs.Values.{value_in}
use Rattle.tensor_dots.proofs.lanes.small.are_small.Given as goal

abbrev pub invariant-loop-value : goal.invariant-loop-value
invariant-loop-value l = (k : ℕ) → k < l.value-index → FitsSigned w32 (value_in l.values k)
