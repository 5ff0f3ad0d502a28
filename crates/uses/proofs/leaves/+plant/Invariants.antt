use Rattle.std.proofs.Common.{length}
use Rattle.uses.proofs.leaves.+plant.Given as goal

-- one tree fewer is left to schedule
abbrev pub decreases-plant : goal.decreases-plant
decreases-plant g l = length l.heights.now
