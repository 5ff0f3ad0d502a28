use Rattle.tensor_ops.specs.Term.{nodes_of}
use Rattle.tensor_ops.specs.Tree.{term_of}
use Rattle.tensor_reduce.proofs.schedule.places_read.+is_read_in_any_order.Given as goal

abbrev pub decreases-is_read_in_any_order : goal.decreases-is_read_in_any_order
decreases-is_read_in_any_order l = nodes_of (term_of l.expr.now)
