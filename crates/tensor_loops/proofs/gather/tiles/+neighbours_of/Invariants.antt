-- The axes are fewer.
use Rattle.std.proofs.Common.{length}
use Rattle.tensor_loops.proofs.gather.tiles.+neighbours_of.Given as goal

abbrev pub decreases-neighbours_of : goal.decreases-neighbours_of
decreases-neighbours_of l = length l.axes.now
