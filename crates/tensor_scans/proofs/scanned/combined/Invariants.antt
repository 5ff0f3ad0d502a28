-- The values before, combined.
use Rattle.std.proofs.Common.{◌≡◌, take}
use Rattle.tensor_values.specs.Combining.{combination}
use Rattle.tensor_scans.proofs.scanned.combined.Given as goal

abbrev pub invariant-loop-value : goal.invariant-loop-value
invariant-loop-value l = l.all ≡ combination l.reducer (take l.value-index l.values)
