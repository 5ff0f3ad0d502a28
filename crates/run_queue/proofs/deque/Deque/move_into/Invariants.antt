-- What has moved and what has not are the jobs, and the rest has room.
use Rattle.std.proofs.Common.{◌≡◌, ◌+◌, ◌≤◌, ◌++◌, vec_len, vec_capacity}
use Rattle.std.specs.VecDeque.{deque_len}
use Rattle.run_queue.proofs.deque.Deque.move_into.Given as goal

abbrev pub invariant-loop-job : goal.invariant-loop-job
invariant-loop-job g l = record {
  items : l.list.items ++ l.jobs.items ≡ l.initial.list.items ++ l.initial.jobs.items;
  room : vec_len l.list + deque_len l.jobs ≤ vec_capacity l.list;
  capacity : vec_capacity l.list ≡ vec_capacity l.initial.list;
}

abbrev pub decreases-loop-job : goal.decreases-loop-job
decreases-loop-job g l = deque_len l.jobs
