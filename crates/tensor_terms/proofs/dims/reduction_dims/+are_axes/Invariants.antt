use Rattle.std.proofs.Common.{length}
use Rattle.tensor_terms.proofs.dims.reduction_dims.+are_axes.Given as goal

abbrev pub decreases-are_axes : goal.decreases-are_axes
decreases-are_axes l = length l.axes.now
