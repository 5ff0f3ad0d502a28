use Rattle.std.proofs.Common.{◌≡◌, ◌+◌}
use Rattle.pool_barrier.specs.Shares.{notices_of, given_of, IsShareOf}
use Rattle.parallel_for.proofs.range_job.give_all.Given as goal

abbrev pub invariant-loop-share : goal.invariant-loop-share
invariant-loop-share g l = record {
  of : IsShareOf l.barrier l.share;
  given : given_of l.share + notices_of l.share
      ≡ given_of l.initial.share + notices_of l.initial.share;
}

abbrev pub decreases-loop-share : goal.decreases-loop-share
decreases-loop-share g l = notices_of l.share
