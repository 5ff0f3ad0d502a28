-- The rule of a table of rows: the account of which jobs went in and which came out.
use Rattle.std.specs.Prelude.{◌≡◌, ℕ, ◌+◌, ◌/◌, ◌^◌, ◌<◌, ◌≤◌, length, slice_index_or, Option, Some}
use Rattle.std.specs.Prelude.{Bool, true}
use mathlib.Core.Option.{some}
use lib.ListN.{get_elem?}
use Rattle.atomic_table.specs.Table.{State}
use Rattle.run_queue.specs.declared.slot_rows.view.View.{View}
use Rattle.run_queue.specs.Bag.{total}
use Rattle.run_queue.specs.Elements.{Phase, word_of, home_of, namers_of, weight_at_home}
use Rattle.run_queue.specs.Lengths.{length_word, job_in_row, owed_to, total_at}
use Rattle.run_queue.specs.Limits.{most_jobs}
use Rattle.run_queue.specs.Positions.{row_with}
use Rattle.run_queue.specs.Views.{names, nothing}

module _ {J : Type 0} where
  -- the element is in the phase, by its word, its slot, and the number of views that name it
  abbrev pub Shows : State (Option J) (View J) → ℕ → Phase J → Type 0
  Shows s element phase =
      (slice_index_or s.words element 0 ≡ word_of phase)
      × (get_elem? s.homes element ≡ some (home_of phase))
      × (total (λ view. names element view.busy) s.views ≡ namers_of phase)

-- The rule. Each element is empty, or ready, or busy and named by exactly one view (each). What was
-- put is, as a bag, what was taken and what is ready: whatever weights jobs are given, the sums are
-- equal (balance). If the rows have length words, the length of a row is the number of its jobs at
-- home plus the number of jobs that views owe it, and it is too small to wrap (lengths, few). The
-- views together have the accounts of all seats that were made (whole), and a view of no seat knows
-- nothing (spent). Each ready job fits its row (fit).
pub record KeepsAccount {J : Type 0} (fits : ℕ → J → Type 0) (counted : Bool) (seats : ℕ)
    (s : State (Option J) (View J)) : Type 0 where
  pub long : length_word (length s.homes) (length s.homes / most_jobs) < length s.words
  pub few : length s.homes + seats < 2 ^ 33
  pub each : (element : ℕ) → element < length s.homes → (phase : Phase J) × Shows s element phase
  pub fit : (element : ℕ) (job : J) → get_elem? s.homes element ≡ some (some (Some job))
      → fits (row_with element) job
  pub lengths : counted ≡ true → (row : ℕ) → row ≤ length s.homes / most_jobs
      → slice_index_or s.words (length_word (length s.homes) row) 0
      ≡ total_at (job_in_row row) 0 s.homes + total (λ view. owed_to row view.owes) s.views
  pub balance : (h : J → ℕ) → total (λ view. total h view.puts) s.views
      ≡ total (λ view. total h view.takes) s.views + total (weight_at_home h) s.homes
  pub whole : total (λ view. view.parts) s.views ≡ seats
  pub spent : (id : ℕ) (view : View J) → get_elem? s.views id ≡ some view → view.parts ≡ 0
      → view ≡ nothing
