use Rattle.tensor_terms.specs.Tree.{term_of}
use Rattle.tensor_terms.proofs.Widening.{shape_of-within}
use Rattle.tensor_terms.proofs.expr.Expr.dims.Goals as goal

pub returns-clause-shape : goal.returns-clause-shape
returns-clause-shape c =
    shape_of-within c.bounds.result (rw c.bounds.ensures.value c.bounds.ensures.limit)
    (term_of c.args.self.now) c.args.inputs.now.tensors c.dims_within.result c.dims_within.ensures
