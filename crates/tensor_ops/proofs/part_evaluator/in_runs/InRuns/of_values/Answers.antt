use Rattle.std.proofs.Common.{◌≡◌, ℕ, List, length, refl, ap, subst, ◌∙◌}
use Rattle.tensor_terms.specs.Merged.{among}
use Rattle.tensor_terms.proofs.OtherAxes.{are_axes-among}
use Rattle.tensor_ops.specs.private.Meaning.{meaning}
use Rattle.tensor_ops.specs.private.Lowering.{meaning_at}
use Rattle.tensor_ops.specs.private.Runs.{LieInRuns}
use Rattle.tensor_ops.proofs.ReducedRuns.{gives-along}
use Rattle.tensor_ops.specs.declared.part_evaluator.in_runs.InRuns.TheVariants.{Combined}
use Rattle.tensor_ops.proofs.part_evaluator.in_runs.InRuns.of_values.Goals as goal

pub along-requires-clause-axes : goal.along-requires-clause-axes
along-requires-clause-axes c =
    rw (c.as_slice.ensures.value, c.all_among-dropped.ensures, c.rank.ensures.value)
    (are_axes-among c.args.axes.now (length c.args.operand.dims))

pub returns : goal.returns
returns c =
    let axes : List ℕ = c.args.axes.now in
    let ds : List ℕ = c.args.operand.dims in
    let runs = c.in_ok-runs.runs in
    let f = meaning_at c.args.operand.lowered ds in
    let dropped : c.as_slice.result.now ≡ among axes (length ds) =
    c.as_slice.ensures.value ∙ c.all_among-dropped.ensures
    ∙ ap (λ n. among axes n) c.rank.ensures.value in
    gives-along c.args.reducer axes ds (Combined c.args.reducer runs) (meaning runs.lowered)
    runs.length runs.count f
    (subst (λ l. LieInRuns (meaning runs.lowered) runs.length runs.count ds l f) dropped
    c.in_ok-runs.ensures)
    tt refl refl (λ p first many. refl)
