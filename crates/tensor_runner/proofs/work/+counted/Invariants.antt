use Rattle.expr_reader.specs.Term.{nodes_of}
use Rattle.expr_reader.specs.Tree.{term_of}
use Rattle.tensor_runner.proofs.work.+counted.Given as goal

abbrev pub decreases-counted : goal.decreases-counted
decreases-counted l = nodes_of (term_of l.expr.now)
