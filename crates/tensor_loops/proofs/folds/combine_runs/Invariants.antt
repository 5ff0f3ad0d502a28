-- The runs so far, combined.
use Rattle.std.proofs.Common.{◌+◌, ◌*◌}
use Rattle.tensor_loops.specs.Folds.{IsCombined, offset_at}
use Rattle.tensor_values.specs.Values.{value_in}
use Rattle.tensor_loops.proofs.folds.combine_runs.Given as goal

abbrev pub invariant-loop-offset : goal.invariant-loop-offset
invariant-loop-offset l =
    IsCombined l.reducer l.initial.row l.row
    (λ i q. value_in l.values (l.start + i + offset_at l.offsets l.step l.run q))
    (l.offset-index * l.run)
