-- What has moved and what has not are the jobs, and the rest has room.
use Rattle.std.proofs.Common.{◌≡◌, ◌+◌, ◌*◌, ◌≤◌, ◌++◌, length, vec_len, vec_capacity}
use Rattle.std.specs.List.{flat_map}
use Rattle.std.specs.Vec.Iter.{into_iter_items}
use Rattle.run_queue.specs.Limits.{most_jobs}
use Rattle.run_queue.proofs.deque_rows.DequeRows.into_jobs.Given as goal

abbrev pub invariant-loop-deque : goal.invariant-loop-deque
invariant-loop-deque g l = record {
  items : l.left.items ++ flat_map (λ row. row) (into_iter_items l.deque-iterator)
      ≡ flat_map (λ row. row) (into_iter_items l.initial.deque-iterator);
  room : vec_len l.left + length (into_iter_items l.deque-iterator) * most_jobs
      ≤ vec_capacity l.left;
}
