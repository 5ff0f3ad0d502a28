-- The quickest of the numbers so far.
use Rattle.std.proofs.Common.{◌≡◌, ◌≤◌}
use Rattle.tensor_reduce.specs.private.Worth.{time_on, IsQuickest}
use Rattle.tensor_reduce.proofs.schedule.worth.Load.workers.Given as goal

abbrev pub invariant-loop-fewer : goal.invariant-loop-fewer
invariant-loop-fewer l = record {
  least : 1 ≤ l.best;
  most : l.best ≤ l.fewer;
  time : l.least ≡ time_on l.self l.best;
  quickest : IsQuickest l.self l.fewer l.best;
}
