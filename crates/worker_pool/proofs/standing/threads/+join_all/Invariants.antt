use Rattle.std.proofs.Common.{vec_len}
use Rattle.worker_pool.proofs.standing.threads.+join_all.Given as goal

-- one thread fewer is left to join
abbrev pub decreases-join_all : goal.decreases-join_all
decreases-join_all g l = vec_len l.threads
