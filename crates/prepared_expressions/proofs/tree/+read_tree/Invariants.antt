use Rattle.prepared_expressions.proofs.tree.+read_tree.Given as goal

abbrev pub decreases-read_tree : goal.decreases-read_tree
decreases-read_tree l = l.height
