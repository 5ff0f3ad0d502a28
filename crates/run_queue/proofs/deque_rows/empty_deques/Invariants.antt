-- As many empty rows as were made, in room for all.
use Rattle.std.proofs.Common.{◌≡◌, [], replicate, vec_capacity}
use Rattle.run_queue.proofs.deque_rows.empty_deques.Given as goal

abbrev pub invariant-loop : goal.invariant-loop
invariant-loop g l = (l.deques.items ≡ replicate l.counter []) × (vec_capacity l.deques ≡ l.count)
