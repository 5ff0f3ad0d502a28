-- One more empty row stands behind the others.
use Rattle.std.proofs.Common.{arith, ◌∙◌, [], ap, length}
use Rattle.std.proofs.lemmas.List.{length-replicate, replicate_more}
use Rattle.run_queue.proofs.deque_rows.empty_deques.Goals as goal

pub push_reserved-requires : goal.push_reserved-requires
push_reserved-requires g c =
    let made = ap length c.loop.invariant.0 ∙ length-replicate c.loop.counter [] in
    omega (arith, made, c.loop.invariant.1, c.loop-test.true)

pub loop-preserved : goal.loop-preserved
loop-preserved g c = (
  rw (c.push_reserved.ensures.items, c.loop.invariant.0, c.in_ok-new.ensures)
      (replicate_more c.loop.counter []),
  c.push_reserved.ensures.capacity ∙ c.loop.invariant.1,
)
