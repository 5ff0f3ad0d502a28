use Rattle.std.proofs.Common.{vec_len}
use Rattle.worker_pool.proofs.opening.start.+start_all.Given as goal

-- one worker fewer is left to start
abbrev pub decreases-start_all : goal.decreases-start_all
decreases-start_all g l = vec_len l.states
