use Rattle.std.proofs.Common.{rules, ◌<◌, arith}
use Rattle.worker_pool.proofs.Growing.{All-first, All-rest}
use Rattle.worker_pool.proofs.working.worker.steal.Goals as goal

pub overflow_cast-row : goal.overflow_cast-row
overflow_cast-row g c =
    let below = All-first (λ row. row < g.Q.Queue.worker_count c.args.queue.now) _ _ _
    c.in-Some.ensures.steps c.loop-row.invariant.left in
    omega (arith, below, c.requires.size.1)

pub take_back-requires-clause-row : goal.take_back-requires-clause-row
take_back-requires-clause-row g c =
    All-first (λ row. row < g.Q.Queue.worker_count c.args.queue.now) _ _ _ c.in-Some.ensures.steps
    c.loop-row.invariant.left

pub loop-row-preserved : goal.loop-row-preserved
loop-row-preserved g c =
    let before = c.loop-row.invariant in
    let after = c.in_default.ensures in
    record {
      left = All-rest (λ row. row < g.Q.Queue.worker_count c.args.queue.now) _ _ _
          c.in-Some.ensures.steps before.left;
      ready = search rules;
      number = search rules;
      stored = search rules;
      puts = search rules;
      takes = search rules;
    }
