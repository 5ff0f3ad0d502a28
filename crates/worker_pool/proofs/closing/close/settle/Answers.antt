use Rattle.std.proofs.Common.{rules}
use Rattle.worker_pool.proofs.Closings.{ran_too-last, ran_too-none, settled-left, settled-ran}
use Rattle.worker_pool.proofs.closing.close.settle.Goals as goal

pub returns-then-cancelled-clause-settled : goal.returns-then-cancelled-clause-settled
returns-then-cancelled-clause-settled g c = settled-left _ _ _ _ _

pub loop-job-preserved : goal.loop-job-preserved
loop-job-preserved g c = record {
  so_far = λ outs refused ran.
      c.loop-job.invariant.so_far outs refused
      (ran_too-last _ _ c.in-Some.job _ _ _ _ _ _ _ _ _ c.in-Some.ensures.items
      c.begin-more.ensures.ran (search rules) ran);
}

pub returns-clause-settled : goal.returns-clause-settled
returns-clause-settled g c =
    settled-ran _ _ _ _ _ _ _ _
    (c.loop-job.invariant.so_far _ _ (ran_too-none _ _ _ _ _ (search rules))) (search rules)
