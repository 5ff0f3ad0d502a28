use Rattle.std.proofs.Common.{◌≡◌, ◌+◌, ◌-◌, map, IfOk, ap, subst, ◌∙◌, arith}
use Rattle.std.specs.List.{range_with_len}
use Rattle.tensor_ops.specs.private.InRuns.{run_part, run_whole}
use Rattle.tensor_ops.specs.PartEvaluator.{term_in_parts, inputs_in_parts}
use Rattle.tensor_ops.specs.Parts.{inner_size, whole_value}
use Rattle.tensor_values.proofs.Runs.{map-shifted}
use Rattle.tensor_ops.proofs.part_evaluator.PartEvaluator.wholes.Goals as goal

pub returns : goal.returns
returns g c =
    let s = c.args.self.now in
    let t = term_in_parts s in
    let inputs = inputs_in_parts s in
    let first = c.args.first in
    let count = c.args.last - first in
    let same : map (run_whole s.runs) (range_with_len first count)
    ≡ map (whole_value t inputs) (range_with_len first count) =
    map-shifted (run_whole s.runs) (whole_value t inputs) first first count
    (λ k below.
    ap (run_part s.runs (first + k) 0) s.inner
    ∙ s.means (first + k) 0 (inner_size t inputs) (omega arith) (omega arith)) in
    subst (λ l. IfOk c.wholes.result (λ v. v.items ≡ l)) same c.wholes.ensures
