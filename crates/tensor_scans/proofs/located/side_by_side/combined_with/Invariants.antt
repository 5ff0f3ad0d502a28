-- The values so far, combined.
use Rattle.std.proofs.Common.{◌≡◌, take}
use Rattle.std.specs.List.{fold}
use Rattle.tensor_values.specs.Combining.{combine}
use Rattle.tensor_scans.proofs.located.side_by_side.combined_with.Given as goal

abbrev pub invariant-loop-other : goal.invariant-loop-other
invariant-loop-other l = l.all ≡ fold (combine l.reducer) l.value (take l.other-index l.others)
