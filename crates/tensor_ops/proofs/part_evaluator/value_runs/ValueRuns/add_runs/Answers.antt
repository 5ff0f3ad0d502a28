use Rattle.std.proofs.Common.{◌≡◌, ◌-◌, ◌*◌, ℕ, ℤ, List, ◌++◌, length, map, ap, ◌∙◌, arith}
use Rattle.std.specs.Cow.{cow_slice_items}
use Rattle.std.specs.List.{range_with_len}
use Rattle.std.proofs.lemmas.List.FromFn.{length-map-range_with_len}
use Rattle.tensor_loops.specs.Folds.{run_folded}
use Rattle.tensor_ops.specs.private.Meaning.{meaning}
use Rattle.tensor_values.specs.Values.{value_in}
use Rattle.tensor_ops.proofs.CombinedRuns.{long-runs, runs-piece}
use Rattle.tensor_ops.proofs.part_evaluator.value_runs.ValueRuns.add_runs.Goals as goal

pub add_combined-requires-clause-within : goal.add_combined-requires-clause-within
add_combined-requires-clause-within g c =
    let s = c.args.self.now in
    let first = c.args.first in
    let last = c.args.last in
    let n : ℕ = s.length * last - s.length * first in
    omega (
      arith,
      ap length c.as_slice.ensures.value,
      ap length c.in_ok-piece.ensures,
      length-map-range_with_len (meaning s.lowered) (s.length * first) n,
      long-runs s.length first last c.requires.order,
    )

pub returns-clause-items : goal.returns-clause-items
returns-clause-items g c =
    let s = c.args.self.now in
    let first = c.args.first in
    let last = c.args.last in
    let items : List ℤ = cow_slice_items c.in_ok-piece.piece in
    let same : items
    ≡ map (meaning s.lowered) (range_with_len (s.length * first) (s.length * (last - first))) =
    c.in_ok-piece.ensures
    ∙ ap (λ n. map (meaning s.lowered) (range_with_len (s.length * first) n))
    (long-runs s.length first last c.requires.order) in
    c.add_combined.ensures.items
    ∙ ap (λ l. c.args.values.now.items
    ++ map (run_folded c.args.reducer (value_in l) s.length) (range_with_len 0 (last - first)))
    c.as_slice.ensures.value
    ∙ ap (λ l. c.args.values.now.items ++ l)
    (runs-piece c.args.reducer (meaning s.lowered) s.length first (last - first) items same)
