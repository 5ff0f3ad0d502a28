use Rattle.std.proofs.Common.{length}
use Rattle.tensor_loops.proofs.loops.combining.+has_long_rows.Given as goal

abbrev pub decreases-has_long_rows : goal.decreases-has_long_rows
decreases-has_long_rows l = length l.axes.now
