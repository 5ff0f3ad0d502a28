use Rattle.expr_reader.specs.Term.{nodes_of}
use Rattle.expr_reader.specs.Tree.{term_of}
use Rattle.tensor_c.proofs.shared.+is_moved_list.Given as goal

abbrev pub decreases-is_moved_list : goal.decreases-is_moved_list
decreases-is_moved_list l = nodes_of (term_of l.expr.now)
