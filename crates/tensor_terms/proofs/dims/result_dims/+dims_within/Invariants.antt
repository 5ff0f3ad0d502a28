use Rattle.tensor_terms.specs.Term.{nodes_of}
use Rattle.tensor_terms.specs.Tree.{term_of}
use Rattle.tensor_terms.proofs.dims.result_dims.+dims_within.Given as goal

abbrev pub decreases-dims_within : goal.decreases-dims_within
decreases-dims_within l = nodes_of (term_of l.expr.now)
