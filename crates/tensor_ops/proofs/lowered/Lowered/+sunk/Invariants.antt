use Rattle.tensor_ops.specs.private.Meaning.{depth_of}
use Rattle.tensor_ops.proofs.lowered.Lowered.+sunk.Given as goal

abbrev pub decreases-sunk : goal.decreases-sunk
decreases-sunk l = depth_of l.self

abbrev pub decreases-composed : goal.decreases-composed
decreases-composed l = depth_of l.self
