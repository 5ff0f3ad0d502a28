use Rattle.expr_reader.specs.Term.{nodes_of}
use Rattle.expr_reader.specs.Tree.{term_of}
use Rattle.tensor_c.proofs.shared.+is_listed.Given as goal

abbrev pub decreases-is_listed : goal.decreases-is_listed
decreases-is_listed l = nodes_of (term_of l.expr.now)
