use Rattle.std.proofs.Common.{◌≡◌, ℕ, List, length, refl, ap, subst, ◌∙◌}
use Rattle.std.proofs.lemmas.Result.{IfOk-weaker}
use Rattle.tensor_kernels.specs.Contracting.{contraction_value}
use Rattle.tensor_terms.specs.Merged.{among}
use Rattle.tensor_terms.proofs.OtherAxes.{are_axes-among}
use Rattle.tensor_ops.specs.private.InRuns.{GivesReduced}
use Rattle.tensor_ops.specs.private.Lowering.{contraction_at, meaning_at}
use Rattle.tensor_ops.specs.private.Runs.{LieInRuns}
use Rattle.tensor_ops.proofs.Lowerings.{gives-index}
use Rattle.tensor_ops.proofs.ReducedRuns.{gives-along, reduced-same}
use Rattle.tensor_ops.specs.declared.part_evaluator.in_runs.InRuns.TheVariants.{Contracted}
use Rattle.tensor_ops.proofs.part_evaluator.in_runs.InRuns.of_contraction.Goals as goal

pub come_first-requires-clause-axes : goal.come_first-requires-clause-axes
come_first-requires-clause-axes c =
    rw (c.as_slice.ensures.value, c.all_among-dropped.ensures)
    (are_axes-among c.args.axes.now c.rank-rank.result)

pub along-runs-requires-clause-axes : goal.along-runs-requires-clause-axes
along-runs-requires-clause-axes c =
    rw (
      c.as_slice-then-come_first.ensures.value,
      c.all_among-dropped.ensures,
      c.rank-rank.ensures.value,
    ) (are_axes-among c.args.axes.now (length c.args.dims))

pub returns-then-come_first : goal.returns-then-come_first
returns-then-come_first c =
    let axes : List ℕ = c.args.axes.now in
    let ds : List ℕ = c.args.dims in
    let runs = c.along-runs.result in
    let at = contraction_value runs.contraction in
    let f = contraction_at c.args.contraction ds in
    let dropped : c.as_slice-then-come_first.result.now ≡ among axes (length ds) =
    c.as_slice-then-come_first.ensures.value ∙ c.all_among-dropped.ensures
    ∙ ap (λ n. among axes n) c.rank-rank.ensures.value in
    gives-along c.args.reducer axes ds (Contracted c.args.reducer runs) at runs.length runs.count f
    (subst (λ l. LieInRuns at runs.length runs.count ds l f) dropped c.along-runs.ensures)
    tt refl refl (λ p first many. refl)

pub returns : goal.returns
returns c =
    let r = c.args.reducer in
    let axes : List ℕ = c.args.axes.now in
    let made = c.in_ok-operand.operand in
    let f = contraction_at c.args.contraction c.args.dims in
    IfOk-weaker c.of_values.result _ _
    (λ runs gives.
    subst (λ d. GivesReduced runs r axes d f) c.in_ok-operand.ensures.dims
    (reduced-same r axes made.dims runs (meaning_at made.lowered made.dims) f gives
    (λ index within.
    gives-index made.lowered made.dims f index c.in_ok-operand.ensures.lowered within)))
    c.of_values.ensures
