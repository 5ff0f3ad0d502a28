use Rattle.std.proofs.Common.{◌≡◌, false, true, sym, ◌∙◌, ap, is_ok}
use Rattle.expr_reader.specs.Asked.{asked_under}
use Rattle.expr_reader.specs.Request.{tensors_of}
use Rattle.expr_reader.specs.Tree.{term_of}
use Rattle.tensor_ops.proofs.Widening.{dims_of-wider}
use Rattle.tensor_c.proofs.shared.shared_of.Goals as goal

-- dims that the request's own bounds allow are dims
pub unreachable-requires : goal.unreachable-requires
unreachable-requires c =
    let r = c.args.request.now in
    let there = ap is_ok r.has_dims in
    let wider = (dims_of-wider r.inputs.bounds c.bounds-limit.ensures.limit (term_of r.expr) (tensors_of (asked_under r))).same there in
    let bad : false ≡ true = ap is_ok (sym c.in_default.ensures.dims ∙ wider) ∙ there in
    (cc)
