-- The items of the batches so far.
use Rattle.std.proofs.Common.{◌-◌, ◌≤◌}
use Rattle.parallel_for.specs.Items.{AreItems}
use Rattle.tensor_reduce.proofs.running.workers.Workers.batched.Given as goal

abbrev pub invariant-loop-first : goal.invariant-loop-first
invariant-loop-first g l = record {
  within : l.first ≤ l.n;
  items : AreItems (g.K.Kernel.item_at l.kernel) 0 l.first l.items.items;
}

abbrev pub decreases-loop-first : goal.decreases-loop-first
decreases-loop-first g l = l.n - l.first
