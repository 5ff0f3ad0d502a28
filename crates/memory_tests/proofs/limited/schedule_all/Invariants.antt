use Rattle.worker_pool.specs.Callers.{StaysCaller}
use Rattle.memory_tests.proofs.limited.schedule_all.Given as goal

-- it is still a caller of its pool
abbrev pub invariant-loop-job : goal.invariant-loop-job
invariant-loop-job g l =
    StaysCaller g.R.Rows g.W.WaitPoint g.J.Job g.L.Lists l.fn.caller l.caller
