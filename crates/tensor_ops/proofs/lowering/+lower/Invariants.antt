use Rattle.std.proofs.Common.{◌+◌, ◌*◌}
use Rattle.tensor_terms.specs.Term.{nodes_of}
use Rattle.tensor_terms.specs.Tree.{term_of}
use Rattle.tensor_ops.proofs.lowering.+lower.Given as goal

abbrev pub decreases-lower : goal.decreases-lower
decreases-lower l = 2 * nodes_of (term_of l.expr.now)

abbrev pub decreases-lower_two : goal.decreases-lower_two
decreases-lower_two l = 1 + 2 * (nodes_of (term_of l.first.now) + nodes_of (term_of l.second.now))
