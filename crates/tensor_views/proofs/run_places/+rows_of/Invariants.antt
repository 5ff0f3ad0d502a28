use Rattle.std.proofs.Common.{length}
use Rattle.tensor_views.proofs.run_places.+rows_of.Given as goal

abbrev pub decreases-rows_of : goal.decreases-rows_of
decreases-rows_of l = length l.view.axes.now
