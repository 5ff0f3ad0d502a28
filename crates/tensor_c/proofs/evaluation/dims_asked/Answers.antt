use Rattle.std.proofs.Common.{sym}
use Rattle.expr_reader.specs.Asked.{asked_under}
use Rattle.expr_reader.specs.Request.{tensors_of}
use Rattle.expr_reader.specs.Tree.{term_of}
use Rattle.tensor_c.proofs.Dims.{shape_of-within}
use Rattle.tensor_c.proofs.evaluation.dims_asked.Goals as goal

-- dims that the request's own bounds allow are dims
pub returns : goal.returns
returns c =
    let r = c.args.request.now in
    sym (shape_of-within r.inputs.bounds c.bounds-limit.ensures.limit (term_of r.expr) (tensors_of (asked_under r)) r.dims r.has_dims)
