use Rattle.std.proofs.Common.{length}
use Rattle.tensor_terms.proofs.dims.movement_dims.+is_among.Given as goal

abbrev pub decreases-is_among : goal.decreases-is_among
decreases-is_among l = length l.list.now
