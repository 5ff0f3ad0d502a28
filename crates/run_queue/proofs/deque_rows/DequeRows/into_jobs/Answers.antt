-- One more row has moved.
use Rattle.std.proofs.Common.{◌≡◌, ◌∙◌, [], arith, ap, length, length-append, append_assoc}
use Rattle.std.proofs.lemmas.List.{nil_from_length, append-nil}
use Rattle.std.specs.List.{flat_map}
use Rattle.std.specs.Vec.Iter.{into_iter_items}
use Rattle.run_queue.proofs.deque_rows.DequeRows.into_jobs.Goals as goal

pub loop-deque-init : goal.loop-deque-init
loop-deque-init g c = record {
  items = rw c.self.invariant.0;
  room = omega (
    arith,
    ap length c.self.invariant.0,
    ap length c.into_iter-deque-iterator.ensures.into_iter_gives.0,
    c.self.invariant.1,
  );
}

pub move_into-requires : goal.move_into-requires
move_into-requires g c =
    omega (arith, ap length c.in-Some.ensures.steps.0, c.loop-deque.invariant.room)

pub loop-deque-preserved : goal.loop-deque-preserved
loop-deque-preserved g c =
    let steps = c.in-Some.ensures.steps.0 in
    let moved = c.move_into.ensures in
    record {
      items = rw (moved.items, append_assoc) (rw steps at c.loop-deque.invariant.items);
      room = omega (
        arith,
        ap length steps,
        simp length-append at (ap length moved.items),
        moved.within,
        moved.capacity,
        c.loop-deque.invariant.room,
      );
    }

pub returns : goal.returns
returns g c =
    let none : into_iter_items c.loop-deque.deque-iterator ≡ [] =
    nil_from_length _ (omega (arith, c.in-None.ensures.steps.0)) in
    let items = rw (none, append-nil) at c.loop-deque.invariant.items in
    items ∙ ap (flat_map (λ row. row))
    (c.into_iter-deque-iterator.ensures.into_iter_gives.0 ∙ c.self.view_is)
