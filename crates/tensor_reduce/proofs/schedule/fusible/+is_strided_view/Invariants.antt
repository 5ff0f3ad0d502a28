use Rattle.tensor_ops.specs.Term.{nodes_of}
use Rattle.tensor_ops.specs.Tree.{term_of}
use Rattle.tensor_reduce.proofs.schedule.fusible.+is_strided_view.Given as goal

abbrev pub decreases-is_strided_view : goal.decreases-is_strided_view
decreases-is_strided_view l = nodes_of (term_of l.expr.now)
