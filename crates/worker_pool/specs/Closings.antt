-- What is known of a pool that was lent to a body and is closed.
use Rattle.std.specs.Prelude.{◌≡◌, ℕ, ◌+◌, ◌≤◌, List, [], ◌++◌, Vec}
use Rattle.std.specs.List.{flat_map}
use Rattle.run_queue.specs.Bag.{SameBag}
use Rattle.run_queue.specs.declared.rows.Rows as rows
use Rattle.worker_pool.specs.declared.caller.Caller.{Caller}
use Rattle.worker_pool.specs.declared.lists.Lists as lists
use Rattle.worker_pool.specs.Accounts.{Account, counted}
use Rattle.worker_pool.specs.Callers.{IsCancelled, roots_of, stop_of}
use Rattle.worker_pool.specs.Laws.{JobLaw}
use Rattle.worker_pool.specs.Stops.{open_word}

-- the outs of all lists, one list after the other
abbrev pub all_outs : {O A : Type 0} → Vec (Vec O A) A → List O
all_outs lists = flat_map (λ list. list.items) lists.items

-- A cancelled pool ran nothing as it was closed. The workers had taken some of the jobs that its
-- workers and its caller had put into the rows, and the others are left. The outs and refusals are
-- the workers' and the caller's.
pub record IsHandedBack {J O : Type 0} (keeps : Type 0) (law : JobLaw J O) (callers_puts : List J)
    (callers_outs : List O) (callers_refused : ℕ) (outs : List O) (left : List J) (refused : ℕ)
    : Type 0 where
  pub taken : List J
  pub put : List J
  pub workers_outs : List O
  pub workers_refused : ℕ
  pub workers : Account keeps law taken put workers_outs [] workers_refused
  pub in_rows : keeps → SameBag (put ++ callers_puts) (taken ++ left)
  pub outs_are : outs ≡ workers_outs ++ callers_outs
  pub refused_are : refused ≡ counted (workers_refused + callers_refused)

-- The body was lent a caller of a pool with `size` workers, at most `starts` of which were started.
-- Nothing had been scheduled or stored through the caller. The outs, the jobs that are left and the
-- refusals account for the jobs that were scheduled through it. A job is left only if the body
-- cancelled the pool. The jobs that are left are then the jobs that no worker had taken when all
-- workers had ended.
pub record HasClosed {J A W R L C O N T S K : Type 0} (row : rows.Ghosts R J A S)
    (list : lists.Ghosts L O A K) (law : JobLaw J O) (size starts : ℕ)
    (before after : Caller J A W R L C O N T S K) (outs : List O) (left : List J) (refused : ℕ)
    : Type 0 where
  pub no_roots : roots_of before ≡ []
  pub workers : before.queue.now.workers ≡ size
  pub started : before.opener.seats.started ≤ starts
  pub stop : stop_of before ≡ open_word
  pub none_left : ¬ IsCancelled after → left ≡ []
  pub handed_back : IsCancelled after → IsHandedBack row.keeps_accounts law
      (row.puts_of after.opener.seats.seat.row) (list.items_of after.opener.outs) after.opener.refused
      outs left refused
  pub account : Account row.keeps_accounts law (roots_of after) [] outs left refused
