-- The first t rows, combined.
use Rattle.std.proofs.Common.{◌+◌, ◌*◌}
use Rattle.tensor_loops.specs.Folds.{IsCombined}
use Rattle.tensor_values.specs.Values.{value_in}
use Rattle.tensor_loops.proofs.folds.combine_by_row.Given as goal

abbrev pub invariant-loop-t : goal.invariant-loop-t
invariant-loop-t l =
    IsCombined l.reducer l.initial.row l.row
    (λ i t. value_in l.values (l.start + i + t * l.step)) l.t
