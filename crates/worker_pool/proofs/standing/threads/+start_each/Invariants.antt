use Rattle.std.proofs.Common.{vec_len}
use Rattle.worker_pool.proofs.standing.threads.+start_each.Given as goal

-- one worker fewer is left to start
abbrev pub decreases-start_each : goal.decreases-start_each
decreases-start_each g l = vec_len l.states
