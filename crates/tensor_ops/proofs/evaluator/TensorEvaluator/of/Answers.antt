use Rattle.std.proofs.Common.{subst, sym, IsOk}
use Rattle.std.proofs.lemmas.List.{append-nil}
use Rattle.tensor_shape.specs.Legal.{widest}
use Rattle.tensor_terms.specs.Result.{dims_of}
use Rattle.tensor_terms.specs.Tree.{term_of}
use Rattle.tensor_terms.proofs.Widening.{dims_of-wider}
use Rattle.tensor_ops.proofs.evaluator.TensorEvaluator.of.Goals as goal

pub over-requires-clause-dims : goal.over-requires-clause-dims
over-requires-clause-dims c =
    let wider = dims_of-wider c.args.inputs.now.bounds c.bounds-limit.ensures.limit (term_of c.args.expr.now) c.args.inputs.now.tensors in
    subst (λ l. IsOk (dims_of widest (term_of c.args.expr.now) l)) (sym (append-nil c.args.inputs.now.tensors))
    (subst (λ r. IsOk r) (sym (wider.same c.requires.dims)) c.requires.dims)
