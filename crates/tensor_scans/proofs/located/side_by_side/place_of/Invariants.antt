-- The value is none of those so far.
use Rattle.std.proofs.Common.{◌≡◌, ◌+◌, drop}
use Rattle.tensor_scans.specs.Lines.{first_place}
use Rattle.tensor_scans.proofs.located.side_by_side.place_of.Given as goal

abbrev pub invariant-loop-k : goal.invariant-loop-k
invariant-loop-k l = first_place l.value l.values ≡ l.k + first_place l.value (drop l.k l.values)
