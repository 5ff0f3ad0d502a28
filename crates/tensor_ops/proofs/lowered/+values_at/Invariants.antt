use Rattle.std.proofs.Common.{◌+◌, ◌*◌}
use Rattle.tensor_ops.specs.private.Meaning.{depth_of}
use Rattle.tensor_ops.proofs.lowered.+values_at.Given as goal

abbrev pub decreases-values_at : goal.decreases-values_at
decreases-values_at l = 2 * depth_of l.lowered.now

abbrev pub decreases-interleaved_at : goal.decreases-interleaved_at
decreases-interleaved_at l = 2 * (depth_of l.first.now + depth_of l.second.now) + 1

abbrev pub decreases-combine_at : goal.decreases-combine_at
decreases-combine_at l = 2 * depth_of l.operand.now + 1
