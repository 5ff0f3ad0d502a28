use Rattle.worker_pool.specs.Accounts.{Account}
use Rattle.worker_pool.specs.Laws.{law_of}
use Rattle.worker_pool.specs.Stops.{open_word}
use Rattle.std.proofs.Common.{◌≡◌, ◌<◌, []}
use Rattle.worker_pool.proofs.working.worker.take_turns.Given as goal

-- the seat is the pool's, and what ran so far lies between what was taken and what was put
abbrev pub invariant-loop : goal.invariant-loop
invariant-loop g l =
    let at = g.Q.Queue in
    record {
      can : (goal.iterator-loop g).can_next l.iterator';
      finite : (goal.iterator-loop g).is_finite l.iterator';
      ready : at.is_ready l.pool.queue l.seat;
      owner : at.row_number (at.row_of l.seat) < at.worker_count l.pool.queue;
      stored_none : at.stored_of l.seat ≡ open_word;
      account : Account at.keeps_accounts (law_of g.J.Job l.ctx)
          (at.takes_of (at.row_of l.seat)) (at.puts_of (at.row_of l.seat)) l.outs.items [] l.refused;
    }
