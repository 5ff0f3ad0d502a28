use Rattle.std.proofs.Common.{◌≡◌, ◌<◌, ◌*◌, ℕ, subst, ◌∙◌, arith}
use Rattle.std.proofs.lemmas.Result.{IfOk-weaker}
use Rattle.tensor_shape.specs.Index.{size_of, place, index_of}
use Rattle.tensor_kernels.specs.Contracting.{contraction_count, contraction_value}
use Rattle.tensor_kernels.specs.Rows.{row_count, dot_at}
use Rattle.tensor_terms.specs.Contraction.{contracted, outer_dims}
use Rattle.tensor_ops.specs.private.Operand.{operand_at}
use Rattle.tensor_ops.proofs.Contractions.{rows-contraction, same-contraction}
use Rattle.tensor_terms.proofs.Dropped.{length-pairs}
use Rattle.tensor_ops.proofs.Outcomes.{IfOk-both}
use Rattle.tensor_ops.proofs.operands.contraction.paired_contraction.Goals as goal

pub unwrap-firsts-requires : goal.unwrap-firsts-requires
unwrap-firsts-requires c =
    c.paired_axes.ensures.some.1
    (length-pairs c.args.pairs.now c.args.first_dims.now c.args.second_dims.now c.requires.dims)

pub returns-then-few-clause-count : goal.returns-then-few-clause-count
returns-then-few-clause-count c =
    c.of_strips.ensures.count
    ∙ (same-contraction c.args.pairs.now c.args.first_dims.now c.args.second_dims.now
    (operand_at c.args.first) (operand_at c.args.second) _ _ _ _ _ _ _ _ _ _ c.requires.dims
    (λ p below. c.in_ok-list.ensures.each p (omega (arith, c.requires.first)))
    (λ p below. c.in_ok-other.ensures.each p (omega (arith, c.requires.second)))
    c.in_ok-left.ensures
    (c.as_slice-first_axes.ensures.value
    ∙ rw c.unwrap-firsts.ensures at c.paired_axes.ensures.first)
    c.in_ok-right.ensures
    (c.as_slice-second_axes.ensures.value
    ∙ rw c.unwrap-firsts.ensures at c.paired_axes.ensures.second)).total

pub returns-then-few-clause-each : goal.returns-then-few-clause-each
returns-then-few-clause-each c p below =
    let within = subst (λ n. p < n) c.of_strips.ensures.count below in
    c.of_strips.ensures.value p
    ∙ (same-contraction c.args.pairs.now c.args.first_dims.now c.args.second_dims.now
    (operand_at c.args.first) (operand_at c.args.second) _ _ _ _ _ _ _ _ _ _ c.requires.dims
    (λ p below. c.in_ok-list.ensures.each p (omega (arith, c.requires.first)))
    (λ p below. c.in_ok-other.ensures.each p (omega (arith, c.requires.second)))
    c.in_ok-left.ensures
    (c.as_slice-first_axes.ensures.value
    ∙ rw c.unwrap-firsts.ensures at c.paired_axes.ensures.first)
    c.in_ok-right.ensures
    (c.as_slice-second_axes.ensures.value
    ∙ rw c.unwrap-firsts.ensures at c.paired_axes.ensures.second)).each p within

pub returns-clause-count : goal.returns-clause-count
returns-clause-count c =
    let pairs = c.args.pairs.now in
    let ds = c.args.first_dims.now in
    let es = c.args.second_dims.now in
    let first = c.in_ok-first.first in
    let second = c.in_ok-second.second in
    let is = rows-contraction pairs ds es _ _ _ _ _ _ _ _ _ _ c.requires.dims
    c.in_ok-first.ensures (c.as_slice-first_axes.ensures.value ∙ rw c.unwrap-firsts.ensures at c.paired_axes.ensures.first)
    c.in_ok-second.ensures (c.as_slice-second_axes.ensures.value ∙ rw c.unwrap-firsts.ensures at c.paired_axes.ensures.second) in
    IfOk-weaker c.of_rows.result (λ made. contraction_count made ≡ row_count second * row_count first)
    (λ made. contraction_count made ≡ size_of (outer_dims pairs ds es)) (λ made count. count ∙ is.total)
    c.of_rows.ensures.count

pub returns-clause-each : goal.returns-clause-each
returns-clause-each c =
    let pairs = c.args.pairs.now in
    let ds = c.args.first_dims.now in
    let es = c.args.second_dims.now in
    let first = c.in_ok-first.first in
    let second = c.in_ok-second.second in
    let is = rows-contraction pairs ds es _ _ _ _ _ _ _ _ _ _ c.requires.dims
    c.in_ok-first.ensures (c.as_slice-first_axes.ensures.value ∙ rw c.unwrap-firsts.ensures at c.paired_axes.ensures.first)
    c.in_ok-second.ensures (c.as_slice-second_axes.ensures.value ∙ rw c.unwrap-firsts.ensures at c.paired_axes.ensures.second) in
    IfOk-both c.of_rows.result (λ made. contraction_count made ≡ row_count second * row_count first)
    (λ made. (p : ℕ) → p < contraction_count made → contraction_value made p ≡ dot_at first second p)
    (λ made. (p : ℕ) → p < contraction_count made → contraction_value made p
    ≡ contracted pairs ds es (λ js. operand_at c.args.first (place ds js))
    (λ js. operand_at c.args.second (place es js)) (index_of (outer_dims pairs ds es) p))
    (λ made count each p below. each p below ∙ is.each p (subst (λ n. p < n) count below))
    c.of_rows.ensures.count c.of_rows.ensures.each
