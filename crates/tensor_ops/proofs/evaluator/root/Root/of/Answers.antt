use Rattle.std.proofs.Common.{◌≡◌, ap, sym, ◌∙◌}
use Rattle.tensor_kernels.specs.Contracting.{contraction_count, contraction_value}
use Rattle.tensor_terms.specs.Along.{along_value, taken}
use Rattle.tensor_terms.specs.Contraction.{contracted}
use Rattle.tensor_terms.specs.Convolution.{convolved}
use Rattle.tensor_ops.specs.private.LineResults.{places_along, value_along}
use Rattle.tensor_ops.specs.private.Lowering.{meaning_at}
use Rattle.tensor_ops.specs.private.Reduced.{places_of_result, reduction_at}
use Rattle.tensor_terms.specs.Reduction.{reduced}
use Rattle.tensor_terms.specs.Tensors.{tensors_in}
use Rattle.tensor_terms.specs.Term.{unary, reduce, along, binary, contract, convolve, taking}
use Rattle.tensor_terms.specs.Tree.{term_of, unary_at, binary_at}
use Rattle.tensor_terms.specs.Value.{value}
use Rattle.tensor_ops.proofs.Worked.{values-other, agree-term, agree-terms}
use Rattle.tensor_ops.proofs.evaluator.root.Root.of.Goals as goal

pub returns-in_ok-reduction-in-Unary-Reduce-default-clause-values :
    goal.returns-in_ok-reduction-in-Unary-Reduce-default-clause-values
returns-in_ok-reduction-in-Unary-Reduce-default-clause-values c =
    let arm = c.in-Unary-Reduce-default in
    let inner = c.in_ok-operand-in-Unary-Reduce-default in
    let made = c.in_ok-reduction-in-Unary-Reduce-default in
    let node : unary (reduce arm.reducer arm.axes.now) (term_of arm.operand.now)
    ≡ term_of c.args.expr.now =
    ap (λ o. unary (unary_at o) (term_of arm.operand.now)) (sym arm.field-0-is) ∙ arm.ensures in
    rw (← node)
    (values-other (places_of_result made.reduction) (reduction_at made.reduction) made.dims
    (reduced arm.reducer arm.axes.now inner.operand.dims
    (meaning_at inner.operand.lowered inner.operand.dims))
    (value (unary (reduce arm.reducer arm.axes.now)
    (term_of arm.operand.now)) (tensors_in c.args.tensors)) made.ensures.values
    (agree-term (tensors_in c.args.tensors) (term_of arm.operand.now)
    (reduce arm.reducer arm.axes.now) inner.operand.lowered inner.operand.dims made.dims
    inner.ensures.lowered inner.ensures.dims made.ensures.dims))

pub returns-in_ok-contraction-in-Binary-Contract-default-default-clause-values :
    goal.returns-in_ok-contraction-in-Binary-Contract-default-default-clause-values
returns-in_ok-contraction-in-Binary-Contract-default-default-clause-values c =
    let arm = c.in-Binary-Contract-default-default in
    let both = c.in_ok-first-in-Binary-Contract-default-default in
    let made = c.in_ok-contraction-in-Binary-Contract-default-default in
    let node : binary (contract arm.pairs.now) (term_of arm.first.now) (term_of arm.second.now)
    ≡ term_of c.args.expr.now =
    ap (λ o. binary (binary_at o) (term_of arm.first.now) (term_of arm.second.now))
    (sym arm.field-0-is) ∙ arm.ensures in
    rw (← node)
    (values-other (contraction_count made.contraction)
    (contraction_value made.contraction) made.dims
    (contracted arm.pairs.now both.first.dims both.second.dims
    (meaning_at both.first.lowered both.first.dims)
    (meaning_at both.second.lowered both.second.dims))
    (value (binary (contract arm.pairs.now) (term_of arm.first.now)
    (term_of arm.second.now)) (tensors_in c.args.tensors)) made.ensures.values
    (agree-terms (tensors_in c.args.tensors) (term_of arm.first.now) (term_of arm.second.now)
    (contract arm.pairs.now) both.first.lowered both.second.lowered both.first.dims
    both.second.dims made.dims both.ensures.first both.ensures.second
    both.ensures.first_dims both.ensures.second_dims made.ensures.dims))

pub returns-in_ok-contraction-in-Binary-Convolve-default-default-clause-values :
    goal.returns-in_ok-contraction-in-Binary-Convolve-default-default-clause-values
returns-in_ok-contraction-in-Binary-Convolve-default-default-clause-values c =
    let arm = c.in-Binary-Convolve-default-default in
    let both = c.in_ok-operand-in-Binary-Convolve-default-default in
    let made = c.in_ok-contraction-in-Binary-Convolve-default-default in
    let node : binary (convolve arm.axes.now) (term_of arm.operand.now) (term_of arm.kernel.now)
    ≡ term_of c.args.expr.now =
    ap (λ o. binary (binary_at o) (term_of arm.operand.now) (term_of arm.kernel.now))
    (sym arm.field-0-is) ∙ arm.ensures in
    rw (← node)
    (values-other (contraction_count made.contraction) (contraction_value made.contraction)
    made.dims
    (convolved arm.axes.now both.kernel.dims
    (meaning_at both.operand.lowered both.operand.dims)
    (meaning_at both.kernel.lowered both.kernel.dims))
    (value (binary (convolve arm.axes.now) (term_of arm.operand.now)
    (term_of arm.kernel.now)) (tensors_in c.args.tensors)) made.ensures.values
    (agree-terms (tensors_in c.args.tensors) (term_of arm.operand.now) (term_of arm.kernel.now)
    (convolve arm.axes.now) both.operand.lowered both.kernel.lowered both.operand.dims
    both.kernel.dims made.dims both.ensures.first both.ensures.second
    both.ensures.first_dims both.ensures.second_dims made.ensures.dims))

pub returns-in_ok-along-in-Unary-Along-default-clause-values :
    goal.returns-in_ok-along-in-Unary-Along-default-clause-values
returns-in_ok-along-in-Unary-Along-default-clause-values c =
    let arm = c.in-Unary-Along-default in
    let inner = c.in_ok-operand-in-Unary-Along-default in
    let made = c.in_ok-along-in-Unary-Along-default in
    let node : unary (along arm.operation arm.axis) (term_of arm.operand.now)
    ≡ term_of c.args.expr.now =
    ap (λ o. unary (unary_at o) (term_of arm.operand.now)) (sym arm.field-0-is) ∙ arm.ensures in
    rw (← node)
    (values-other (places_along made.along) (value_along made.along) made.dims
    (along_value arm.operation arm.axis inner.operand.dims
    (meaning_at inner.operand.lowered inner.operand.dims))
    (value (unary (along arm.operation arm.axis)
    (term_of arm.operand.now)) (tensors_in c.args.tensors)) made.ensures.values
    (agree-term (tensors_in c.args.tensors) (term_of arm.operand.now)
    (along arm.operation arm.axis) inner.operand.lowered inner.operand.dims made.dims
    inner.ensures.lowered inner.ensures.dims made.ensures.dims))

pub returns-in_ok-along-in-Binary-Take-default-default-clause-values :
    goal.returns-in_ok-along-in-Binary-Take-default-default-clause-values
returns-in_ok-along-in-Binary-Take-default-default-clause-values c =
    let arm = c.in-Binary-Take-default-default in
    let both = c.in_ok-first-in-Binary-Take-default-default in
    let made = c.in_ok-along-in-Binary-Take-default-default in
    let node : binary (taking arm.axis) (term_of arm.first.now) (term_of arm.second.now)
    ≡ term_of c.args.expr.now =
    ap (λ o. binary (binary_at o) (term_of arm.first.now) (term_of arm.second.now))
    (sym arm.field-0-is) ∙ arm.ensures in
    rw (← node)
    (values-other (places_along made.along) (value_along made.along) made.dims
    (taken arm.axis both.first.dims both.second.dims
    (meaning_at both.first.lowered both.first.dims)
    (meaning_at both.second.lowered both.second.dims))
    (value (binary (taking arm.axis) (term_of arm.first.now)
    (term_of arm.second.now)) (tensors_in c.args.tensors)) made.ensures.values
    (agree-terms (tensors_in c.args.tensors) (term_of arm.first.now) (term_of arm.second.now)
    (taking arm.axis) both.first.lowered both.second.lowered both.first.dims
    both.second.dims made.dims both.ensures.first both.ensures.second
    both.ensures.first_dims both.ensures.second_dims made.ensures.dims))
