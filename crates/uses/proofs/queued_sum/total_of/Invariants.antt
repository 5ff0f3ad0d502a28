use Rattle.std.proofs.Common.{◌≡◌, ◌+◌, ◌%◌, ◌^◌, length}
use Rattle.std.specs.Prelude.{sum_by}
use Rattle.uses.proofs.queued_sum.total_of.Given as goal

-- the numbers so far that are left in the queue
abbrev pub invariant-loop-job : goal.invariant-loop-job
invariant-loop-job g l = l.total ≡ sum_by (λ job. job.number) l.yielded % 2 ^ 64

-- the parts so far, and their amount
abbrev pub invariant-loop-member : goal.invariant-loop-member
invariant-loop-member g l = record {
  parts : l.all.parts ≡ length l.yielded + 1;
  added : l.total ≡ l.all.amount % 2 ^ 64;
}
