-- A piece fewer is left each time.
use Rattle.tensor_runner.proofs.stack.+grow.Given as goal

abbrev pub decreases-grow : goal.decreases-grow
decreases-grow g l = l.pieces
