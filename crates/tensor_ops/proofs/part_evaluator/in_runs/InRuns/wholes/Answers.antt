use Rattle.std.proofs.Common.{◌≡◌, ◌-◌, map, IfOk, ap, sym, subst, ◌∙◌}
use Rattle.std.specs.List.{range_with_len}
use Rattle.tensor_kernels.specs.Contracting.{contraction_value}
use Rattle.tensor_ops.specs.private.ContractedRuns.{contracted_combined}
use Rattle.tensor_ops.specs.private.InRuns.{run_whole}
use Rattle.tensor_ops.specs.private.Meaning.{meaning}
use Rattle.tensor_ops.specs.private.ValueRuns.{run_combined}
use Rattle.tensor_ops.proofs.CombinedRuns.{whole-runs}
use Rattle.tensor_ops.proofs.part_evaluator.in_runs.InRuns.wholes.Goals as goal

pub returns-in-Combined : goal.returns-in-Combined
returns-in-Combined g c =
    let arm = c.in-Combined in
    let first = c.args.first in
    let count = c.args.last - first in
    let same : map (run_combined arm.reducer arm.runs) (range_with_len first count)
    ≡ map (run_whole c.args.self.now) (range_with_len first count) =
    whole-runs arm.reducer (meaning arm.runs.lowered) arm.runs.length first count
    ∙ ap (λ r. map (run_whole r) (range_with_len first count)) (sym arm.is) in
    subst (λ l. IfOk c.together.result (λ v. v.items ≡ l)) same c.together.ensures

pub returns-in-Contracted : goal.returns-in-Contracted
returns-in-Contracted g c =
    let arm = c.in-Contracted in
    let first = c.args.first in
    let count = c.args.last - first in
    let same : map (contracted_combined arm.reducer arm.runs) (range_with_len first count)
    ≡ map (run_whole c.args.self.now) (range_with_len first count) =
    whole-runs arm.reducer (contraction_value arm.runs.contraction) arm.runs.length first count
    ∙ ap (λ r. map (run_whole r) (range_with_len first count)) (sym arm.is) in
    subst (λ l. IfOk c.together-in-Contracted.result (λ v. v.items ≡ l)) same
    c.together-in-Contracted.ensures
