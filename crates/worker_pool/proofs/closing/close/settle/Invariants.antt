use Rattle.std.proofs.Common.{ℕ, List}
use Rattle.worker_pool.specs.Laws.{law_of}
use Rattle.worker_pool.specs.Ran.{RanToo}
use Rattle.worker_pool.proofs.closing.close.settle.Given as goal

-- once those that are left have run too, all have
abbrev pub invariant-loop-job : goal.invariant-loop-job
invariant-loop-job g l = record {
  so_far : (outs : List _) (refused : ℕ)
      → RanToo g.Q.Queue.keeps_accounts (law_of g.J.Job l.ctx) l.left.items
      (g.L.Lists.items_of l.outs) outs l.refused refused
      → RanToo g.Q.Queue.keeps_accounts (law_of g.J.Job l.ctx) l.initial.left.items
      (g.L.Lists.items_of l.initial.outs) outs l.before refused;
}

abbrev pub decreases-loop-job : goal.decreases-loop-job
decreases-loop-job g l = goal.left-loop-job g l
