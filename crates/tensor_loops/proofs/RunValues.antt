-- Runs of a list's values, combined.
use Rattle.std.proofs.Common.{◌≡◌, ℕ, ℤ, pos, ◌+◌, ◌-◌, ◌*◌, ◌≤◌, List, length, ap, ◌∙◌, arith}
use Rattle.std.specs.List.{between}
use Rattle.std.proofs.lemmas.List.Edits.{length-between, get_or-between}
use Rattle.tensor_loops.specs.Folds.{folded, run_folded}
use Rattle.tensor_values.specs.Values.{value_in}
use Rattle.tensor_values.specs.Combining.{unit}
use Rattle.tensor_values.specs.declared.reducer.Reducer.{Reducer}
use Rattle.tensor_loops.proofs.Folding.{folded-ext}

module _ (r : Reducer) where
  -- a run of a list is what lies between two places
  pub run-between : (values : List ℤ) (n k : ℕ) → n * k + n ≤ length values
      → folded r (unit r) (value_in (between (n * k) (n * k + n) values))
      (length (between (n * k) (n * k + n) values))
      ≡ run_folded r (value_in values) n k
  run-between values n k within =
      let part : List ℤ = between (n * k) (n * k + n) values in
      let long : length part ≡ n + n * k - n * k =
      length-between values (n * k) (n * k + n) within ∙ ap (λ m. m - n * k) (omega arith) in
      let whole : length part ≡ n = omega (arith, long) in
      ap (folded r (unit r) (value_in part)) whole
      ∙ folded-ext r (unit r) (value_in part) (λ q. value_in values (q + n * k)) n
      (λ q below. get_or-between values (n * k) (n * k + n) q (pos 0) (omega arith)
      ∙ ap (value_in values) (omega arith))
