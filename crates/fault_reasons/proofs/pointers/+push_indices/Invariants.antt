-- The indices that are left.
use Rattle.std.proofs.Common.{length}
use Rattle.fault_reasons.proofs.pointers.+push_indices.Given as goal

abbrev pub decreases-push_indices : goal.decreases-push_indices
decreases-push_indices l = length l.indices.now
