use Rattle.std.proofs.Common.{subst, sym, IsOk}
use Rattle.tensor_terms.specs.Tree.{term_of}
use Rattle.tensor_terms.proofs.Widening.{dims_of-wider}
use Rattle.tensor_terms.proofs.cursor.Cursor.of.Goals as goal

pub invariant_of-result-clause-has_dims : goal.invariant_of-result-clause-has_dims
invariant_of-result-clause-has_dims c =
    let wider = dims_of-wider c.args.inputs.now.bounds c.bounds-limit.ensures.limit (term_of c.args.expr.now) c.args.inputs.now.tensors in
    subst (λ r. IsOk r) (sym (wider.same c.requires.dims)) c.requires.dims
