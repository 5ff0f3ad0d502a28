use Rattle.std.proofs.Common.{◌≡◌, List, [], IsOk, ap, sym, subst, ◌∙◌}
use Rattle.std.specs.Result.{result_unwrap_or}
use Rattle.std.proofs.lemmas.Result.{IfOk-weaker}
use Rattle.tensor_kernels.specs.Contracting.{contraction_count, contraction_value}
use Rattle.tensor_shape.specs.Legal.{widest}
use Rattle.tensor_terms.specs.Contents.{Contents}
use Rattle.tensor_terms.specs.Contraction.{contracted, contracted_dims}
use Rattle.tensor_terms.specs.Result.{dims_of, shape_of}
use Rattle.tensor_terms.specs.Tensors.{tensors_in}
use Rattle.tensor_terms.specs.Term.{Term, binary, contract}
use Rattle.tensor_terms.specs.Tree.{term_of, binary_at}
use Rattle.tensor_terms.specs.Value.{value}
use Rattle.tensor_terms.proofs.SameValues.{Agree}
use Rattle.tensor_terms.proofs.Shapes.{with_two-over}
use Rattle.tensor_terms.proofs.Terms.{reduced-known}
use Rattle.tensor_ops.specs.private.Lowering.{contraction_at, meaning_at}
use Rattle.tensor_ops.proofs.Lowerings.{gives-index}
use Rattle.tensor_ops.proofs.ReducedRuns.{gives-reduced}
use Rattle.tensor_ops.proofs.Worked.{values-other, values-agree, agree-terms}
use Rattle.tensor_ops.proofs.part_evaluator.in_runs.InRuns.of_reduction.Goals as goal

pub returns-in_ok-contraction-in-Binary-Contract-default-default :
    goal.returns-in_ok-contraction-in-Binary-Contract-default-default
returns-in_ok-contraction-in-Binary-Contract-default-default c =
    let arm = c.in-Binary-Contract-default-default in
    let both = c.in_ok-first-in-Binary-Contract-default-default in
    let made = c.in_ok-contraction-in-Binary-Contract-default-default in
    let ts : List Contents = tensors_in c.args.tensors in
    let t : Term = term_of c.args.operand.now in
    let u : Term =
    binary (contract arm.pairs.now) (term_of arm.first.now) (term_of arm.second.now) in
    let node : u ≡ t =
    ap (λ o. binary (binary_at o) (term_of arm.first.now) (term_of arm.second.now))
    (sym arm.field-0-is) ∙ arm.ensures in
    let known = reduced-known ts c.args.reducer c.args.axes.now t c.requires.dims in
    let own = with_two-over (contracted_dims widest arm.pairs.now)
    (dims_of widest (term_of arm.first.now) ts)
    (dims_of widest (term_of arm.second.now) ts)
    both.first.dims both.second.dims both.ensures.first_dims both.ensures.second_dims
    (subst (λ e. IsOk (dims_of widest e ts)) (sym node) known.operand) in
    let shape : made.dims ≡ shape_of t ts =
    sym (ap (λ s. result_unwrap_or s []) (own ∙ made.ensures.dims))
    ∙ ap (λ e. shape_of e ts) node in
    let count = contraction_count made.contraction in
    let at = contraction_value made.contraction in
    let f = contraction_at made.contraction made.dims in
    let same : Agree made.dims f (value t ts) =
    subst (λ e. Agree made.dims f (value e ts)) node
    (values-agree count at made.dims (value u ts)
    (values-other count at made.dims
    (contracted arm.pairs.now both.first.dims both.second.dims
    (meaning_at both.first.lowered both.first.dims)
    (meaning_at both.second.lowered both.second.dims)) (value u ts) made.ensures.values
    (agree-terms ts (term_of arm.first.now) (term_of arm.second.now) (contract arm.pairs.now)
    both.first.lowered both.second.lowered both.first.dims both.second.dims made.dims
    both.ensures.first both.ensures.second both.ensures.first_dims both.ensures.second_dims
    made.ensures.dims))) in
    IfOk-weaker c.of_contraction.result _ _
    (λ runs gives.
    gives-reduced ts t c.args.reducer c.args.axes.now made.dims f runs c.requires.dims shape gives
    same) c.of_contraction.ensures

pub returns-in_ok-operand-in_default : goal.returns-in_ok-operand-in_default
returns-in_ok-operand-in_default c =
    let made = c.in_ok-operand-in_default in
    let lowered = made.operand.lowered in
    let ds = made.operand.dims in
    let ts : List Contents = tensors_in c.args.tensors in
    let t : Term = term_of c.args.operand.now in
    IfOk-weaker c.of_values.result _ _
    (λ runs gives.
    gives-reduced ts t c.args.reducer c.args.axes.now ds (meaning_at lowered ds) runs
    c.requires.dims made.ensures.dims gives
    (λ index within. gives-index lowered ds (value t ts) index made.ensures.lowered within))
    c.of_values.ensures
