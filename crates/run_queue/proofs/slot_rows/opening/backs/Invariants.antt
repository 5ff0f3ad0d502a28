-- As many backs as were made, in room for all.
use Rattle.std.proofs.Common.{◌≡◌, vec_len, vec_capacity}
use Rattle.run_queue.proofs.slot_rows.opening.backs.Given as goal

abbrev pub invariant-loop : goal.invariant-loop
invariant-loop g l = (vec_len l.backs ≡ l.counter) × (vec_capacity l.backs ≡ l.count)
