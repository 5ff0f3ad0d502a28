use Rattle.tensor_ops.specs.Term.{nodes_of}
use Rattle.tensor_ops.specs.Tree.{term_of}
use Rattle.tensor_reduce.proofs.cutting.+cut.Given as goal

abbrev pub decreases-cut : goal.decreases-cut
decreases-cut l = nodes_of (term_of l.expr.now)
