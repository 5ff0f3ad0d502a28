-- The first t values, combined.
use Rattle.std.proofs.Common.{◌≡◌, ◌+◌, ◌*◌}
use Rattle.tensor_loops.specs.Folds.{folded}
use Rattle.tensor_values.specs.Values.{value_in}
use Rattle.tensor_loops.proofs.folds.folded.Given as goal

abbrev pub invariant-loop-t : goal.invariant-loop-t
invariant-loop-t l =
    l.all ≡ folded l.reducer l.value (λ t. value_in l.values (l.first + t * l.step)) l.t
