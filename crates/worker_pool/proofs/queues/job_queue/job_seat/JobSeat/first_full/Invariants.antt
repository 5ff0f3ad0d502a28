use Rattle.std.proofs.Common.{◌≡◌, ◌<◌, ◌++◌, ℕ, List, All, true}
use Rattle.std.specs.Prelude.{IfSome, IsNone}
use Rattle.worker_pool.specs.Seen.{has_passed}
use Rattle.worker_pool.proofs.queues.job_queue.job_seat.JobSeat.first_full.Given as goal

-- The rows that are left are rows, and so is the first. While there is none, those before were passed.
abbrev pub invariant-loop-row : goal.invariant-loop-row
invariant-loop-row g l = record {
  left : All (λ row. row < g.R.Rows.row_count l.queue.rows) l.row-iterator;
  inside : IfSome l.first (λ row. row < g.R.Rows.row_count l.queue.rows);
  rows : g.R.Rows.rows_of l.self.row ≡ g.R.Rows.rows_of l.fn.self.row;
  number : g.R.Rows.number_of l.self.row ≡ g.R.Rows.number_of l.fn.self.row;
  puts : g.R.Rows.keeps_accounts → g.R.Rows.puts_of l.self.row ≡ g.R.Rows.puts_of l.fn.self.row;
  takes : g.R.Rows.keeps_accounts → g.R.Rows.takes_of l.self.row ≡ g.R.Rows.takes_of l.fn.self.row;
  waker : l.self.waker ≡ l.fn.self.waker;
  stop : l.self.stop ≡ l.fn.self.stop;
  announcing : l.self.announcing ≡ l.fn.self.announcing;
  told : l.self.told ≡ l.fn.self.told;
  flag : l.self.seen.flag ≡ l.fn.self.seen.flag;
  stopped : l.self.seen.stopped ≡ l.fn.self.seen.stopped;
  passed : IsNone l.first → (before : List ℕ) × (l.fn.walk ≡ before ++ l.row-iterator)
      × All (λ row. has_passed l.self.seen row ≡ true) before;
}
