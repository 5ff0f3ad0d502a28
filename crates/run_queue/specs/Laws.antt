-- The laws of rows: what holds in every state that the rule of their table allows.
use Rattle.std.specs.Prelude.{◌≡◌, ◌==◌, ◌<◌, ◌≤◌, ℕ, ◌+◌, ◌/◌, if◌then◌else◌, List, [], ◌∷◌}
use Rattle.std.specs.Prelude.{◌++◌, length, Option, Some, option_to_list, slice_index_or}
use Rattle.std.specs.List.{flat_map}
use mathlib.Core.Option.{some, none}
use mathlib.Core.Option as maybe
use lib.ListN.{get_elem?}
use Rattle.atomic_table.specs.Table.{State}
use Rattle.run_queue.specs.declared.slot_rows.rule.RowsKey.{RowsKey}
use Rattle.run_queue.specs.declared.slot_rows.view.View.{View}
use Rattle.run_queue.specs.Bag.{SameBag}
use Rattle.run_queue.specs.Elements.{busy_word, ready_word}
use Rattle.run_queue.specs.Lengths.{length_word, ready_in}
use Rattle.run_queue.specs.Limits.{most_jobs}
use Rattle.run_queue.specs.Positions.{row_with}

-- a rule for rows, by their key
abbrev pub Rule : Type 0 → Type 0 → Type 1
Rule J K = RowsKey K → State (Option J) (View J) → Type 0

module _ {J : Type 0} where
  -- the job at home in a slot, if there is one
  abbrev pub job_at_home : maybe.Option (Option J) → List J
  job_at_home none = []
  job_at_home (some slot) = option_to_list slot

  -- the jobs of the elements whose words say that they are ready
  abbrev pub ready_jobs : List ℕ → List (maybe.Option (Option J)) → List J
  ready_jobs words [] = []
  ready_jobs [] (home ∷ homes) = []
  ready_jobs (word ∷ words) (home ∷ homes) =
      (if word == ready_word then job_at_home home else []) ++ ready_jobs words homes

  -- the view of the seat names the element
  abbrev pub Names : List (View J) → ℕ → ℕ → Type 0
  Names views seat element =
      (view : View J) × (get_elem? views seat ≡ some view) × (view.busy ≡ Some element)

  -- the length of a row, by its word
  abbrev pub length_in : State (Option J) (View J) → ℕ → ℕ
  length_in s row = slice_index_or s.words (length_word (length s.homes) row) 0

module _ {J K : Type 0} where
  -- what was put is, as a bag, what was taken and what is ready
  abbrev pub PutsAreTakesAndReady : Rule J K → Type 0
  PutsAreTakesAndReady holds =
      (key : RowsKey K) (s : State (Option J) (View J)) → holds key s
      → SameBag (flat_map (λ view. view.puts) s.views)
      (flat_map (λ view. view.takes) s.views ++ ready_jobs s.words s.homes)

  -- an element whose word says busy is named in the view of exactly one seat
  abbrev pub BusyElementsAreNamed : Rule J K → Type 0
  BusyElementsAreNamed holds =
      (key : RowsKey K) (s : State (Option J) (View J)) → holds key s
      → (element : ℕ) → element < length s.homes → slice_index_or s.words element 0 ≡ busy_word
      → (seat : ℕ) × Names s.views seat element
      × ((other : ℕ) → Names s.views other element → other ≡ seat)

  -- an element that a view names is busy
  abbrev pub NamedElementsAreBusy : Rule J K → Type 0
  NamedElementsAreBusy holds =
      (key : RowsKey K) (s : State (Option J) (View J)) → holds key s
      → (element seat : ℕ) → element < length s.homes → Names s.views seat element
      → slice_index_or s.words element 0 ≡ busy_word

  -- a row's length is at least the number of its elements whose words say ready
  abbrev pub LengthsCoverReady : Rule J K → Type 0
  LengthsCoverReady holds =
      (key : RowsKey K) (s : State (Option J) (View J)) → holds key s
      → (row : ℕ) → row < length s.homes / most_jobs → ready_in row s.words ≤ length_in s row

  -- a row's length is at most 1,024 plus the number of seats
  abbrev pub LengthsAreBounded : Rule J K → Type 0
  LengthsAreBounded holds =
      (key : RowsKey K) (s : State (Option J) (View J)) → holds key s
      → (row : ℕ) → row < length s.homes / most_jobs → length_in s row ≤ most_jobs + key.seats

  -- each job at home in a slot fits the row of its element
  abbrev pub ReadyJobsFit : (RowsKey K → ℕ → J → Type 0) → Rule J K → Type 0
  ReadyJobsFit fits holds =
      (key : RowsKey K) (s : State (Option J) (View J)) → holds key s
      → (element : ℕ) (job : J) → get_elem? s.homes element ≡ some (some (Some job))
      → fits key (row_with element) job
