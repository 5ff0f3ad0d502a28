-- The parts so far, combined.
use Rattle.std.proofs.Common.{◌≡◌, take}
use Rattle.tensor_ops.specs.Combining.{combination}
use Rattle.tensor_reduce.proofs.running.combined.combination.Given as goal

abbrev pub invariant-loop-part : goal.invariant-loop-part
invariant-loop-part l = l.value ≡ combination l.reducer (take l.part-index l.parts)
