use Rattle.std.proofs.Common.{◌∙◌, ap, is_ok}
use Rattle.expr_reader.specs.Result.{dims_of}
use Rattle.expr_reader.specs.Tree.{term_of}
use Rattle.tensor_c.proofs.evaluation.tensor_asked.Goals as goal

pub eval_plain-requires-clause-inputs : goal.eval_plain-requires-clause-inputs
eval_plain-requires-clause-inputs c = c.in_ok-ready.ready.has_inputs

pub eval_plain-requires-clause-dims : goal.eval_plain-requires-clause-dims
eval_plain-requires-clause-dims c =
    let r = c.in_ok-ready.ready in
    ap (λ w. is_ok (dims_of w (term_of r.expr) r.tensors.tensors)) r.bounds ∙ ap is_ok r.has_dims
