use Rattle.tensor_ops.specs.Term.{nodes_of}
use Rattle.tensor_ops.specs.Tree.{term_of}
use Rattle.tensor_reduce.proofs.schedule.cost.+thousand_of.Given as goal

abbrev pub decreases-thousand_of : goal.decreases-thousand_of
decreases-thousand_of l = nodes_of (term_of l.expr.now)
