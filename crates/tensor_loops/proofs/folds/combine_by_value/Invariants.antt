-- The values below the counter are combined, and the others are as they were.
use Rattle.std.proofs.Common.{◌≡◌, ℕ, ◌+◌, ◌*◌, ◌<◌, ◌≤◌, length}
use Rattle.tensor_loops.specs.Folds.{folded}
use Rattle.tensor_values.specs.Values.{value_in}
use Rattle.tensor_loops.proofs.folds.combine_by_value.Given as goal

abbrev pub invariant-loop-i : goal.invariant-loop-i
invariant-loop-i l = record {
  long : length l.row ≡ length l.initial.row;
  each : (k : ℕ) → k < l.i
      → value_in l.row k ≡ folded l.reducer (value_in l.initial.row k)
      (λ t. value_in l.values (l.start + k + t * l.step)) l.run;
  rest : (k : ℕ) → l.i ≤ k → value_in l.row k ≡ value_in l.initial.row k;
}
