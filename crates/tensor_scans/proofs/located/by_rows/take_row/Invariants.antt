-- The lines before k have one value more, and of the others is known what was.
use Rattle.std.proofs.Common.{◌≡◌, ℕ, ℤ, ◌<◌, ◌≤◌, List, [], ◌∷◌, ◌++◌, length}
use Rattle.tensor_scans.specs.private.Firsts.{IsSeen}
use Rattle.tensor_values.specs.Values.{value_in}
use Rattle.tensor_scans.proofs.located.by_rows.take_row.Given as goal

abbrev pub invariant-loop-k : goal.invariant-loop-k
invariant-loop-k l = record {
  best : length l.best ≡ length l.initial.best;
  firsts : length l.firsts ≡ length l.initial.firsts;
  each : (j : ℕ) → j < l.k → (xs : List ℤ) → length xs ≡ l.row.number
      → IsSeen l.operation xs (value_in l.initial.best j) (value_in l.initial.firsts j)
      → IsSeen l.operation (xs ++ value_in l.row.values.now j ∷ []) (value_in l.best j) (value_in l.firsts j);
  best_rest : (j : ℕ) → l.k ≤ j → value_in l.best j ≡ value_in l.initial.best j;
  firsts_rest : (j : ℕ) → l.k ≤ j → value_in l.firsts j ≡ value_in l.initial.firsts j;
}
