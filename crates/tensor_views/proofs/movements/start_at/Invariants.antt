-- The place so far, and what the axes that are left add to it.
use Rattle.std.proofs.Common.{◌≡◌, ◌+◌, drop}
use Rattle.tensor_views.specs.Axes.{by_steps}
use Rattle.tensor_views.proofs.movements.start_at.Given as goal

abbrev pub invariant-loop-k : goal.invariant-loop-k
invariant-loop-k l = l.place + by_steps (drop l.k l.view.axes.now) (drop l.k l.index) ≡ l.view.start + by_steps l.view.axes.now l.index
