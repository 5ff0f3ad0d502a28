use Rattle.std.proofs.Common.{◌≡◌, ◌-◌, IfOk, subst, arith}
use Rattle.tensor_ops.specs.Evaluator.{term_evaluated, inputs_evaluated}
use Rattle.tensor_ops.specs.private.Root.{root_value}
use Rattle.tensor_ops.proofs.Evaluated.{map-values_from}
use Rattle.tensor_ops.proofs.evaluator.TensorEvaluator.values.Goals as goal

pub returns : goal.returns
returns g c =
    subst (λ l. IfOk c.values.result (λ v. v.items ≡ l))
    (map-values_from (inputs_evaluated c.args.self.now) (term_evaluated c.args.self.now) (root_value c.args.self.now.root)
    c.args.first (c.args.last - c.args.first) c.args.self.now.means (omega arith))
    c.values.ensures
