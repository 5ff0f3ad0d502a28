-- The axes so far are the same.
use Rattle.std.proofs.Common.{◌≡◌, ℕ, ◌<◌, get_or}
use Rattle.tensor_views.specs.Forward.{no_axis}
use Rattle.tensor_loops.proofs.loops.chain.are_same_axes.Given as goal

abbrev pub invariant-loop-k : goal.invariant-loop-k
invariant-loop-k l = (j : ℕ) → j < l.k → get_or l.first j no_axis ≡ get_or l.second j no_axis
