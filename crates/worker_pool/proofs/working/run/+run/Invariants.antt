-- Each step makes the job lighter.
use Rattle.worker_pool.proofs.working.run.+run.Given as goal

abbrev pub decreases-run : goal.decreases-run
decreases-run g l = g.J.Job.weight_of l.job
