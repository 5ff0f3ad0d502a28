-- The first t values, combined.
use Rattle.std.proofs.Common.{◌≡◌}
use Rattle.tensor_loops.specs.Folds.{folded}
use Rattle.tensor_values.specs.Values.{value_in}
use Rattle.tensor_loops.proofs.folds.all_with.Given as goal

abbrev pub invariant-loop-t : goal.invariant-loop-t
invariant-loop-t l = l.all ≡ folded l.reducer l.value (value_in l.others) l.t
