use Rattle.std.proofs.Common.{◌≡◌, ◌-◌, length, ap, subst, ◌∙◌, arith}
use Rattle.tensor_shape.specs.Index.{size_of, IsIndexOf}
use Rattle.tensor_terms.specs.Contents.{value_at}
use Rattle.tensor_ops.specs.Evaluator.{term_evaluated, inputs_evaluated}
use Rattle.tensor_terms.specs.Result.{shape_of}
use Rattle.tensor_terms.specs.Tree.{term_of}
use Rattle.tensor_terms.specs.Value.{tensor_of, values_from}
use Rattle.tensor_ops.proofs.Evaluated.{length-values_from, tensor_of-made, value_at-tensor_of}
use Rattle.tensor_ops.proofs.evaluator.plain.eval_plain.Goals as goal

pub new-requires : goal.new-requires
new-requires c =
    let e = c.in_ok-evaluator.evaluator in
    ap length c.in_ok-values.ensures ∙ length-values_from (inputs_evaluated e) (term_evaluated e) 0 (c.size.result - 0)
    ∙ omega (arith, c.size.ensures.value)

pub returns-clause-tensor : goal.returns-clause-tensor
returns-clause-tensor c =
    let e = c.in_ok-evaluator.evaluator in
    let t = term_of c.args.expr.now in
    let inputs = c.args.inputs.now.tensors in
    let shape : shape_of (term_evaluated e) (inputs_evaluated e) ≡ shape_of t inputs =
    ap (λ u. shape_of u (inputs_evaluated e)) c.in_ok-evaluator.ensures.term ∙ ap (shape_of t) c.in_ok-evaluator.ensures.inputs in
    let dims : c.copied-dims.result ≡ shape_of t inputs = c.copied-dims.ensures ∙ c.dims.ensures ∙ shape in
    tensor_of-made inputs t c.new.result (c.size.result - 0) (c.new.ensures.dims ∙ dims)
    (c.new.ensures.values ∙ c.in_ok-values.ensures
    ∙ ap (λ u. values_from u (inputs_evaluated e) 0 (c.size.result - 0)) c.in_ok-evaluator.ensures.term
    ∙ ap (λ i. values_from t i 0 (c.size.result - 0)) c.in_ok-evaluator.ensures.inputs)
    (omega (arith, c.size.ensures.value, ap size_of dims))

pub returns-clause-each : goal.returns-clause-each
returns-clause-each c = λ index is_index.
    let whole : c.new.result ≡ tensor_of (term_of c.args.expr.now) c.args.inputs.now.tensors = returns-clause-tensor c in
    ap (λ t. value_at t index) whole
    ∙ value_at-tensor_of c.args.inputs.now.tensors (term_of c.args.expr.now) index (subst (λ t. IsIndexOf t.dims index) whole is_index)
