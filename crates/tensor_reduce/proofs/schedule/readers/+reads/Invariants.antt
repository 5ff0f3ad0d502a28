use Rattle.tensor_ops.specs.Term.{nodes_of}
use Rattle.tensor_ops.specs.Tree.{term_of}
use Rattle.tensor_reduce.proofs.schedule.readers.+reads.Given as goal

abbrev pub decreases-reads : goal.decreases-reads
decreases-reads l = nodes_of (term_of l.expr.now)
