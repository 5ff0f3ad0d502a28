use Rattle.std.proofs.Common.{◌≡◌, List, IsOk, ap, sym, subst, ◌∙◌}
use Rattle.tensor_shape.specs.Legal.{widest}
use Rattle.tensor_terms.specs.Contents.{Contents}
use Rattle.tensor_terms.specs.Result.{dims_of}
use Rattle.tensor_terms.specs.Tensors.{tensors_in}
use Rattle.tensor_terms.specs.Term.{unary, binary, reduce, contract}
use Rattle.tensor_terms.specs.Tree.{term_of, unary_at, binary_at}
use Rattle.tensor_ops.proofs.PartValues.{gives-contracted}
use Rattle.tensor_terms.proofs.Terms.{contracted-known}
use Rattle.tensor_ops.proofs.part_evaluator.in_runs.InRuns.of.Goals as goal

pub of_reduction-requires-clause-dims : goal.of_reduction-requires-clause-dims
of_reduction-requires-clause-dims c =
    let arm = c.in-Unary-Reduce-default in
    let ts : List Contents = tensors_in c.args.tensors in
    let node : unary (reduce arm.reducer arm.axes.now) (term_of arm.operand.now)
    ≡ term_of c.args.expr.now =
    ap (λ o. unary (unary_at o) (term_of arm.operand.now)) (sym arm.field-0-is) ∙ arm.ensures in
    subst (λ t. IsOk (dims_of widest t ts)) (sym node) c.requires.dims

pub returns-in-Unary-Reduce-default : goal.returns-in-Unary-Reduce-default
returns-in-Unary-Reduce-default c =
    let arm = c.in-Unary-Reduce-default in
    let node : unary (reduce arm.reducer arm.axes.now) (term_of arm.operand.now)
    ≡ term_of c.args.expr.now =
    ap (λ o. unary (unary_at o) (term_of arm.operand.now)) (sym arm.field-0-is) ∙ arm.ensures in
    rw (← node) c.of_reduction.ensures

pub unwrap-firsts-requires : goal.unwrap-firsts-requires
unwrap-firsts-requires c =
    let arm = c.in-Binary-Contract-default-default in
    let both = c.in_ok-first-in-Binary-Contract-default-default in
    let ts : List Contents = tensors_in c.args.tensors in
    let node : binary (contract arm.pairs.now) (term_of arm.first.now) (term_of arm.second.now)
    ≡ term_of c.args.expr.now =
    ap (λ o. binary (binary_at o) (term_of arm.first.now) (term_of arm.second.now))
    (sym arm.field-0-is) ∙ arm.ensures in
    let has_dims = subst (λ t. IsOk (dims_of widest t ts)) (sym node) c.requires.dims in
    let known = contracted-known ts arm.pairs.now (term_of arm.first.now) (term_of arm.second.now)
    has_dims in
    c.paired_axes.ensures.some.1 (rw both.ensures.first_dims known.few)

pub returns-in_ok-right-in-Binary-Contract-default-default :
    goal.returns-in_ok-right-in-Binary-Contract-default-default
returns-in_ok-right-in-Binary-Contract-default-default c =
    let arm = c.in-Binary-Contract-default-default in
    let both = c.in_ok-first-in-Binary-Contract-default-default in
    let ts : List Contents = tensors_in c.args.tensors in
    let node : binary (contract arm.pairs.now) (term_of arm.first.now) (term_of arm.second.now)
    ≡ term_of c.args.expr.now =
    ap (λ o. binary (binary_at o) (term_of arm.first.now) (term_of arm.second.now))
    (sym arm.field-0-is) ∙ arm.ensures in
    let has_dims = subst (λ t. IsOk (dims_of widest t ts)) (sym node) c.requires.dims in
    rw (← node)
    (gives-contracted ts (term_of arm.first.now) (term_of arm.second.now) arm.pairs.now
    both.first.dims both.second.dims
    c.as_slice.result.now
    c.as_slice-in-Binary-Contract-default-default.result.now
    both.first.lowered both.second.lowered
    c.in_ok-left-in-Binary-Contract-default-default.left
    c.in_ok-right-in-Binary-Contract-default-default.right
    has_dims both.ensures.first both.ensures.first_dims both.ensures.second both.ensures.second_dims
    (c.as_slice.ensures.value ∙ (rw c.unwrap-firsts.ensures at c.paired_axes.ensures.first))
    c.in_ok-left-in-Binary-Contract-default-default.ensures
    (c.as_slice-in-Binary-Contract-default-default.ensures.value ∙ (rw c.unwrap-firsts.ensures at c.paired_axes.ensures.second))
    c.in_ok-right-in-Binary-Contract-default-default.ensures)
