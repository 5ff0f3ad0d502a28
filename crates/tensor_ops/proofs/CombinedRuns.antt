-- Runs of values, each combined from the unit.
use Rattle.std.proofs.Common.{◌≡◌, ℕ, ℤ, ◌+◌, ◌-◌, ◌*◌, ◌<◌, ◌≤◌, List, map}
use Rattle.std.proofs.Common.{ap, ◌∙◌, arith}
use Rattle.std.specs.List.{range_with_len}
use Rattle.std.proofs.lemmas.Nat.{column_fits}
use Rattle.tensor_loops.specs.Folds.{folded, run_folded}
use Rattle.tensor_values.specs.Values.{value_in}
use Rattle.tensor_values.specs.Combining.{unit}
use Rattle.tensor_ops.specs.private.Runs.{value_in_run}
use Rattle.tensor_values.specs.declared.reducer.Reducer.{Reducer}
use Rattle.tensor_loops.proofs.Folding.{folded-ext}
use Rattle.tensor_ops.proofs.PartValues.{piece-value}
use Rattle.tensor_values.proofs.Runs.{map-shifted}

-- how many values runs have
pub long-runs : (n first last : ℕ) → first ≤ last
    → n * last - n * first ≡ n * (last - first)
long-runs n first last order =
    let whole : last ≡ first + (last - first) = omega arith in
    let parts : n * (first + (last - first)) ≡ n * first + n * (last - first) = grind arith in
    omega (arith, ap (λ m. n * m) whole, parts)

module _ (r : Reducer) where
  -- the runs of a piece are those of what it was cut from
  pub runs-piece : (f : ℕ → ℤ) (n first count : ℕ) (items : List ℤ)
      → items ≡ map f (range_with_len (n * first) (n * count))
      → map (run_folded r (value_in items) n) (range_with_len 0 count)
      ≡ map (run_folded r f n) (range_with_len first count)
  runs-piece f n first count items same =
      map-shifted (run_folded r (value_in items) n) (run_folded r f n) 0 first count
      (λ k below.
      folded-ext r (unit r) (λ q. value_in items (q + n * (0 + k))) (λ q. f (q + n * (first + k))) n
      (λ q in_run.
      let here : q + n * (0 + k) ≡ q + n * k = omega arith in
      let there : n * first + (q + n * k) ≡ q + n * (first + k) = grind arith in
      let fits : n * k + n ≤ n * count = column_fits n k n count below (omega arith) in
      let inside : q + n * k < n * count = omega arith in
      ap (value_in items) here
      ∙ piece-value f (n * first) (n * count) items (q + n * k) same inside ∙ ap f there))

  -- whole runs give what they give from the first value on
  pub whole-runs : (at : ℕ → ℤ) (n first count : ℕ)
      → map (run_folded r at n) (range_with_len first count)
      ≡ map (λ x. folded r (unit r) (λ q. value_in_run at n x (0 + q)) n)
      (range_with_len first count)
  whole-runs at n first count =
      map-shifted (run_folded r at n) (λ x. folded r (unit r) (λ q. value_in_run at n x (0 + q)) n)
      first first count
      (λ k below.
      folded-ext r (unit r) (value_in_run at n (first + k))
      (λ q. value_in_run at n (first + k) (0 + q)) n
      (λ q in_run. ap (value_in_run at n (first + k)) (omega arith)))
