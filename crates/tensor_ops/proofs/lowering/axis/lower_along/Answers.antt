use Rattle.std.proofs.Common.{sym, subst}
use Rattle.tensor_ops.specs.private.LineResults.{places_along, value_along}
use Rattle.tensor_ops.specs.private.Lowering.{along_at, meaning_at}
use Rattle.tensor_ops.proofs.Lowerings.{gives-other}
use Rattle.tensor_ops.proofs.Outcomes.{IfOk-both}
use Rattle.tensor_ops.proofs.Worked.{values-agree}
use Rattle.tensor_terms.specs.Along.{along_value}
use Rattle.tensor_terms.proofs.SameValues.{Agree}
use Rattle.tensor_ops.proofs.lowering.axis.lower_along.Goals as goal

pub returns-clause-lowered : goal.returns-clause-lowered
returns-clause-lowered c =
    let made = c.in_ok-along.along in
    let rs = c.in_ok-along.dims in
    let f = along_value c.args.operation c.args.axis c.args.operand.dims
    (meaning_at c.args.operand.lowered c.args.operand.dims) in
    let same : Agree rs (along_at made rs) f =
    values-agree (places_along made) (value_along made) rs f c.in_ok-along.ensures.values in
    IfOk-both c.worked_out.result _ _ _
    (λ r gives dims.
    gives-other r.lowered r.dims (along_at made rs) f gives
    (subst (λ d. Agree d (along_at made rs) f) (sym dims) same))
    c.worked_out.ensures.lowered c.worked_out.ensures.dims
