use Rattle.pool_barrier.specs.Shares.{IsShareOf, notices_of}
use Rattle.pool_part_tests.proofs.barriers.give_late.Given as goal

abbrev pub invariant-loop-share : goal.invariant-loop-share
invariant-loop-share g l = IsShareOf l.barrier l.share

abbrev pub decreases-loop-share : goal.decreases-loop-share
decreases-loop-share g l = notices_of l.share
