use Rattle.std.proofs.Common.{◌≡◌, ◌<◌, All}
use Rattle.worker_pool.proofs.working.worker.steal.Given as goal

-- nothing was taken so far, and the rows that are left are rows
abbrev pub invariant-loop-row : goal.invariant-loop-row
invariant-loop-row g l =
    let at = g.Q.Queue in
    record {
      left : All (λ row. row < at.worker_count l.queue) l.row-iterator;
      ready : at.is_ready l.queue l.seat;
      number : at.row_number (at.row_of l.seat) ≡ at.row_number (at.row_of l.fn.seat);
      stored : at.stored_of l.seat ≡ at.stored_of l.fn.seat;
      puts : at.keeps_accounts → at.puts_of (at.row_of l.seat) ≡ at.puts_of (at.row_of l.fn.seat);
      takes : at.keeps_accounts
          → at.takes_of (at.row_of l.seat) ≡ at.takes_of (at.row_of l.fn.seat);
    }
