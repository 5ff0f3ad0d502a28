use Rattle.tensor_ops.specs.Term.{nodes_of}
use Rattle.tensor_ops.specs.Tree.{term_of}
use Rattle.tensor_reduce.proofs.running.fused_expr.+copied.Given as goal

abbrev pub decreases-copied : goal.decreases-copied
decreases-copied l = nodes_of (term_of l.expr.now)
