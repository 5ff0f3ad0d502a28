use Rattle.std.proofs.Common.{◌≡◌, ◌+◌, ◌-◌, ◌*◌, ℕ, map, ap, ◌∙◌, arith}
use Rattle.std.specs.List.{range_with_len}
use Rattle.std.proofs.lemmas.Result.{IfOk-weaker}
use Rattle.tensor_ops.specs.private.Meaning.{meaning}
use Rattle.tensor_ops.specs.private.ValueRuns.{run_value}
use Rattle.tensor_values.proofs.Runs.{map-shifted}
use Rattle.tensor_ops.proofs.part_evaluator.value_runs.ValueRuns.piece.Goals as goal

pub returns : goal.returns
returns c =
    let s = c.args.self.now in
    let first = c.args.first in
    let last = c.args.last in
    let start : ℕ = s.length * c.args.run in
    let long : last + start - (first + start) ≡ last - first = omega arith in
    IfOk-weaker c.values_at.result _ _
    (λ v same. same
    ∙ ap (λ k. map (meaning s.lowered) (range_with_len (first + start) k)) long
    ∙ map-shifted (meaning s.lowered) (run_value s c.args.run) (first + start) first (last - first)
    (λ k below. ap (meaning s.lowered) (omega arith)))
    c.values_at.ensures
