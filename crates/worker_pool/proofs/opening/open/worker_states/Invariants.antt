use Rattle.std.proofs.Common.{◌≡◌, ◌+◌, length, map, All, vec_capacity}
use Rattle.std.specs.List.{range_with_len}
use Rattle.std.specs.Iterator.Adapters.{zip_first, zip_second}
use Rattle.std.specs.Vec.Iter.{into_iter_items}
use Rattle.worker_pool.specs.Openings.{AreRows, AreWakers, IsByNumber}
use Rattle.worker_pool.specs.Works.{IsAtWork}
use Rattle.worker_pool.proofs.opening.open.worker_states.Given as goal

-- the states so far are by number, and the seats that are left go on from there
abbrev pub invariant-loop-row : goal.invariant-loop-row
invariant-loop-row g l = record {
  can : (goal.iterator-loop-row g).can_next l.row-iterator;
  finite : (goal.iterator-loop-row g).is_finite l.row-iterator;
  rows : AreRows g.Q.Queue l.pool.queue (length l.states.items)
      (into_iter_items (zip_first l.row-iterator));
  wakers : AreWakers g.Q.Queue l.pool.queue (length l.states.items)
      (into_iter_items (zip_second l.row-iterator));
  rows_many : length (into_iter_items (zip_first l.row-iterator)) + length l.states.items
      ≡ g.Q.Queue.worker_count l.pool.queue;
  wakers_many : length (into_iter_items (zip_second l.row-iterator)) + length l.states.items
      ≡ g.Q.Queue.worker_count l.pool.queue;
  room : vec_capacity l.states ≡ g.Q.Queue.worker_count l.pool.queue;
  at_work : (ctx : _) → All (IsAtWork g.Q.Queue g.J.Job l.pool ctx) l.states.items;
  numbers : map (λ state. state.number) l.states.items ≡ range_with_len 0 (length l.states.items);
  by_number : All (IsByNumber g.Q.Queue l.setup.partitions.items l.setup.workers) l.states.items;
}
