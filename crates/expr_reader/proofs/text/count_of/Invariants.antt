-- The values so far, with those of the arrays left, are those of all arrays, and may stand there.
use Rattle.std.proofs.Common.{◌≡◌, ◌+◌, ◌≤◌, length, drop}
use Rattle.expr_reader.specs.Arrays.{arrays_under, joined}
use Rattle.expr_reader.specs.Limits.{widest_values}
use Rattle.expr_reader.proofs.text.count_of.Given as goal

abbrev pub invariant-loop-array : goal.invariant-loop-array
invariant-loop-array l =
    (l.count + length (joined (arrays_under (drop l.array-index l.arrays)))
    ≡ length (joined (arrays_under l.arrays)))
    × (l.count ≤ widest_values)
