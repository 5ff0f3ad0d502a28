-- The values so far are the one value.
use Rattle.std.proofs.Common.{◌≡◌, ℕ, ◌<◌}
use Rattle.tensor_values.specs.Values.{value_in}
use Rattle.tensor_scans.proofs.located.set_all.Given as goal

abbrev pub invariant-loop-place : goal.invariant-loop-place
invariant-loop-place l = (k : ℕ) → k < l.place-index → value_in l.values k ≡ l.value
