-- The division that the jobs of this call name.
use Rattle.pool_barrier.specs.Shares.{barrier_id}
use Rattle.parallel_for.proofs.evaluation.fill_counted.Given as goal

abbrev pub ghosts-fill_range : goal.ghosts-fill_range
ghosts-fill_range g a = record {
  size = g.K.Kernel.size a.kernel.now;
  block = a.range.block;
  barrier = barrier_id a.range.barrier;
}
