-- The axes that are left.
use Rattle.std.proofs.Common.{length}
use Rattle.tensor_terms.proofs.dims.convolution_dims.+fit_along.Given as goal

abbrev pub decreases-fit_along : goal.decreases-fit_along
decreases-fit_along l = length l.axes.now
