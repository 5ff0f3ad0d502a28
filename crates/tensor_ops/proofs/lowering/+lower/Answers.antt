use Rattle.std.proofs.Common.{[], IsOk, ap, subst, sym, ◌∙◌}
use Rattle.std.specs.Result.{result_unwrap_or}
use Rattle.tensor_shape.specs.Legal.{widest}
use Rattle.tensor_terms.specs.Contents.{value_at}
use Rattle.tensor_ops.specs.private.Lowering.{Gives}
use Rattle.tensor_terms.specs.Result.{dims_of, binary_dims}
use Rattle.tensor_terms.specs.Tensors.{tensors_in}
use Rattle.tensor_terms.specs.Tree.{term_of, unary_at, binary_at}
use Rattle.tensor_ops.specs.declared.lowered.Lowered.TheVariants.{Borrowed}
use Rattle.tensor_ops.proofs.Lowerings.{gives-input}
use Rattle.tensor_ops.proofs.Outcomes.{IfOk-both}
use Rattle.tensor_terms.proofs.Shapes.{with_two-over}
use Rattle.tensor_ops.proofs.Worked.{gives-unary, gives-binary}
use Rattle.tensor_ops.proofs.lowering.+lower.Goals as goal

pub lower-returns-in-Input-clause-lowered : goal.lower-returns-in-Input-clause-lowered
lower-returns-in-Input-clause-lowered t c =
    rw (
      ← c.in-Input.ensures,
      c.copied.ensures ∙ c.dims.ensures
          ∙ ap (λ x. x.dims) c.get-input.ensures,
    )
    (subst (λ x. Gives (Borrowed c.values.result) x.dims (value_at x)) c.get-input.ensures
    (gives-input c.values.result c.get-input.result.now c.values.ensures.value
    c.values.ensures.full))

pub lower-returns-in_ok-operand-in-Unary-clause-lowered :
    goal.lower-returns-in_ok-operand-in-Unary-clause-lowered
lower-returns-in_ok-operand-in-Unary-clause-lowered t c =
    let operand = c.in_ok-operand-in-Unary in
    rw (← c.in-Unary.ensures)
    (IfOk-both c.lower_unary.result _ _ _
    (λ r gives dims.
    gives-unary (tensors_in c.args.tensors) (term_of c.in-Unary.operand.now)
    (unary_at c.in-Unary.operation) operand.operand.lowered r.lowered
    operand.operand.dims r.dims operand.ensures.lowered operand.ensures.dims dims gives)
    c.lower_unary.ensures.lowered c.lower_unary.ensures.dims)

pub lower-returns-in_ok-first-in-Binary-clause-lowered :
    goal.lower-returns-in_ok-first-in-Binary-clause-lowered
lower-returns-in_ok-first-in-Binary-clause-lowered t c =
    let arm = c.in-Binary in
    let both = c.in_ok-first-in-Binary in
    rw (← arm.ensures)
    (IfOk-both c.lower_binary.result _ _ _
    (λ r gives dims.
    gives-binary (tensors_in c.args.tensors) (term_of arm.first.now) (term_of arm.second.now)
    (binary_at arm.operation) both.first.lowered both.second.lowered r.lowered both.first.dims
    both.second.dims r.dims both.ensures.first both.ensures.second both.ensures.first_dims
    both.ensures.second_dims dims gives)
    c.lower_binary.ensures.lowered c.lower_binary.ensures.dims)

pub lower-lower_binary-requires-clause-dims : goal.lower-lower_binary-requires-clause-dims
lower-lower_binary-requires-clause-dims t c =
    let arm = c.in-Binary in
    let both = c.in_ok-first-in-Binary in
    let has = subst (λ e. IsOk (dims_of widest e (tensors_in c.args.tensors)))
    (sym arm.ensures) c.requires.dims in
    subst (λ r. IsOk r)
    (with_two-over (binary_dims widest (binary_at arm.operation))
    (dims_of widest (term_of arm.first.now) (tensors_in c.args.tensors))
    (dims_of widest (term_of arm.second.now) (tensors_in c.args.tensors))
    both.first.dims both.second.dims both.ensures.first_dims both.ensures.second_dims has) has

pub lower-returns-in_ok-first-in-Binary-clause-dims :
    goal.lower-returns-in_ok-first-in-Binary-clause-dims
lower-returns-in_ok-first-in-Binary-clause-dims t c =
    let arm = c.in-Binary in
    let both = c.in_ok-first-in-Binary in
    let has = subst (λ e. IsOk (dims_of widest e (tensors_in c.args.tensors)))
    (sym arm.ensures) c.requires.dims in
    let own = with_two-over (binary_dims widest (binary_at arm.operation))
    (dims_of widest (term_of arm.first.now) (tensors_in c.args.tensors))
    (dims_of widest (term_of arm.second.now) (tensors_in c.args.tensors))
    both.first.dims both.second.dims both.ensures.first_dims both.ensures.second_dims has in
    rw (← arm.ensures)
    (IfOk-both c.lower_binary.result _ _ _
    (λ r gives dims. sym (ap (λ s. result_unwrap_or s []) (own ∙ dims)))
    c.lower_binary.ensures.lowered c.lower_binary.ensures.dims)
