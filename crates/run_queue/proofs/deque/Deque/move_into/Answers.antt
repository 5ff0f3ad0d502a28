-- One more job has moved.
use Rattle.std.proofs.Common.{arith, refl, ◌∙◌, append_assoc}
use Rattle.run_queue.proofs.deque.Deque.move_into.Goals as goal

pub loop-job-init : goal.loop-job-init
loop-job-init g c = record {
  items = refl;
  room = omega (arith, c.requires, c.self.invariant.0);
  capacity = refl;
}

pub loop-job-preserved : goal.loop-job-preserved
loop-job-preserved g c =
    let push = c.push_reserved.ensures in
    let pop = c.in-Some.ensures in
    let was = c.loop-job.invariant in
    record {
      items = rw (push.items, append_assoc) (rw pop.items at was.items);
      room = omega (arith, push.len, push.capacity, pop.len, was.room);
      capacity = push.capacity ∙ was.capacity;
    }
