use Rattle.std.proofs.Common.{length}
use Rattle.tensor_terms.proofs.dims.movement_dims.+fit_within.Given as goal

abbrev pub decreases-fit_within : goal.decreases-fit_within
decreases-fit_within l = length l.sizes.now
