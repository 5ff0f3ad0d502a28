use Rattle.std.proofs.Common.{length}
use Rattle.tensor_views.proofs.composing.+extent_along.Given as goal

abbrev pub decreases-extent_along : goal.decreases-extent_along
decreases-extent_along l = length l.traces.now
