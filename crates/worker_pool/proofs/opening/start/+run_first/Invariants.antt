use Rattle.std.proofs.Common.{vec_len}
use Rattle.worker_pool.proofs.opening.start.+run_first.Given as goal

-- one worker fewer may be left out
abbrev pub decreases-run_first : goal.decreases-run_first
decreases-run_first g l = vec_len l.states
