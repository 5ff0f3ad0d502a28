use Rattle.std.proofs.Common.{◌≡◌, vec_capacity}
use Rattle.waking_rows.specs.Tickets.{jobs_in}
use Rattle.waking_rows.proofs.waking_rows.ending.jobs_of.Given as goal

-- the jobs so far are in the list
abbrev pub invariant-loop-it : goal.invariant-loop-it
invariant-loop-it g l = record {
  done : l.jobs.items ≡ jobs_in l.yielded;
  room : vec_capacity l.jobs ≡ vec_capacity l.fn.jobs;
}
