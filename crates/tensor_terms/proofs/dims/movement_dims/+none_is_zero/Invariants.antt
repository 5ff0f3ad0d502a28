use Rattle.std.proofs.Common.{length}
use Rattle.tensor_terms.proofs.dims.movement_dims.+none_is_zero.Given as goal

abbrev pub decreases-none_is_zero : goal.decreases-none_is_zero
decreases-none_is_zero l = length l.counts.now
