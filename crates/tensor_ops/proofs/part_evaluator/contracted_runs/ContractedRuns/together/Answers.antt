use Rattle.std.proofs.Common.{◌≡◌, ◌-◌, ◌*◌, ℕ, ℤ, List, ◌++◌, length, map, ap, ◌∙◌, arith}
use Rattle.std.specs.List.{range_with_len}
use Rattle.std.proofs.lemmas.List.FromFn.{length-map-range_with_len}
use Rattle.tensor_kernels.specs.Contracting.{contraction_value}
use Rattle.tensor_values.specs.Values.{value_in}
use Rattle.tensor_loops.specs.Folds.{run_folded}
use Rattle.tensor_ops.proofs.CombinedRuns.{long-runs, runs-piece}
use Rattle.tensor_ops.proofs.part_evaluator.contracted_runs.ContractedRuns.together.Goals as goal

pub add_combined-requires-clause-within : goal.add_combined-requires-clause-within
add_combined-requires-clause-within g c =
    let s = c.args.self.now in
    let first = c.args.first in
    let last = c.args.last in
    omega (
      arith,
      ap length c.deref.ensures.value,
      ap length c.in_ok-values.ensures,
      length-map-range_with_len (contraction_value s.contraction) (s.length * first)
          (s.length * last - s.length * first),
      long-runs s.length first last c.requires.order,
    )

pub returns : goal.returns
returns g c =
    let s = c.args.self.now in
    let at : ℕ → ℤ = contraction_value s.contraction in
    let first = c.args.first in
    let last = c.args.last in
    let items : List ℤ = c.in_ok-values.values.items in
    let same : items ≡ map at (range_with_len (s.length * first) (s.length * (last - first))) =
    c.in_ok-values.ensures
    ∙ ap (λ n. map at (range_with_len (s.length * first) n))
    (long-runs s.length first last c.requires.order) in
    c.add_combined.ensures.items
    ∙ ap (λ l. l ++ map (run_folded c.args.reducer (value_in c.deref.result.now) s.length)
    (range_with_len 0 (last - first))) c.in_ok-combined.ensures.items
    ∙ ap (λ l. map (run_folded c.args.reducer (value_in l) s.length)
    (range_with_len 0 (last - first))) c.deref.ensures.value
    ∙ runs-piece c.args.reducer at s.length first (last - first) items same
