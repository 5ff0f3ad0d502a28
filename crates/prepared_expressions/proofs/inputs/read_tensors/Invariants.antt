-- The tensors so far, before those of the other arrays, are those of all arrays.
use Rattle.std.proofs.Common.{◌≡◌, drop}
use Rattle.prepared_expressions.specs.private.Dealing.{after, all_from}
use Rattle.expr_reader.specs.Arrays.{arrays_under}
use Rattle.prepared_expressions.proofs.inputs.read_tensors.Given as goal

abbrev pub invariant-loop-array : goal.invariant-loop-array
invariant-loop-array l =
    after l.tensors.items (all_from l.bounds (arrays_under (drop l.array-index l.arrays)) l.rest)
    ≡ all_from l.bounds (arrays_under l.arrays) l.numbers
