use Rattle.std.proofs.Common.{sym, subst}
use Rattle.tensor_kernels.specs.Contracting.{contraction_count, contraction_value}
use Rattle.tensor_ops.proofs.Outcomes.{IfOk-both}
use Rattle.tensor_terms.specs.Contraction.{contracted}
use Rattle.tensor_terms.proofs.SameValues.{Agree}
use Rattle.tensor_ops.specs.private.Lowering.{contraction_at, meaning_at}
use Rattle.tensor_ops.proofs.Lowerings.{gives-other}
use Rattle.tensor_ops.proofs.Worked.{values-agree}
use Rattle.tensor_ops.proofs.lowering.ready.lower_contraction.Goals as goal

pub returns-clause-lowered : goal.returns-clause-lowered
returns-clause-lowered c =
    let made = c.in_ok-contraction.contraction in
    let rs = c.in_ok-contraction.dims in
    let f = contracted c.args.pairs.now c.args.first.dims c.args.second.dims
    (meaning_at c.args.first.lowered c.args.first.dims)
    (meaning_at c.args.second.lowered c.args.second.dims) in
    let same : Agree rs (contraction_at made rs) f =
    values-agree (contraction_count made) (contraction_value made) rs f
    c.in_ok-contraction.ensures.values in
    IfOk-both c.worked_out.result _ _ _
    (λ r gives dims.
    gives-other r.lowered r.dims (contraction_at made rs) f gives
    (subst (λ d. Agree d (contraction_at made rs) f) (sym dims) same))
    c.worked_out.ensures.lowered c.worked_out.ensures.dims
