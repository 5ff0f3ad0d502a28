-- The plays of rows: what each step tells the seat that makes it, and on which word it is.
use Rattle.std.specs.Prelude.{◌≡◌, ◌≢◌, ◌≤◌, ℕ, ◌+◌, Bool, [], ◌∷◌, ◌++◌, Option, Some, None}
use Rattle.atomic_table.specs.Table.{Me, Step, rest}
use Rattle.run_queue.specs.declared.slot_rows.view.View.{View}
use Rattle.run_queue.specs.Views.{claimed, looked_at, moved, view_of, noted, owing, nothing}
use Rattle.run_queue.specs.Views.{owed_where}
use Rattle.run_queue.specs.Lengths.{length_word}
use Rattle.run_queue.specs.Limits.{most_jobs}
use Rattle.run_queue.specs.Positions.{row_with}

-- a seat's view, and the slots that the seat has
abbrev pub Sat : Type 0 → Type 0
Sat J = Me (Option J) (View J)

-- what a step tells: the step, the seat before it, the word that was found, the seat after it
abbrev pub Told : Type 0 → Type 1
Told J = Step (Option J) → Sat J → ℕ → Sat J → Type 0

module _ {J : Type 0} where
  -- the step is on the word with the length of the row
  abbrev pub OnLengthOf : ℕ → Step (Option J) → Type 0
  OnLengthOf row step = step.word ≡ length_word step.slots row

  -- a claim that found another word than it wanted is counted, and nothing else changes
  abbrev pub misses : Told J
  misses step before found after =
      (after.0 ≡ noted before.0 (claimed step.word step.first found before.0.notes))
      × (after.1 ≡ before.1)

  -- after a claim that found the element empty, the seat has the element, and its slot with no job
  abbrev pub claims_in : (ℕ → ℕ) → Told J
  claims_in shift step before found after =
      (found ≡ step.first
      → (after.0 ≡ view_of before.0.parts before.0.puts before.0.takes (Some step.word) None
      (moved shift (claimed step.word step.first step.first before.0.notes)))
      × (after.1 ≡ (step.word, None) ∷ before.1))
      × (found ≢ step.first → misses step before found after)

  -- the seat raises by one the length word of the row of the element that it works on
  abbrev pub raises : Told J
  raises step before found after =
      (element : ℕ) × (before.0.busy ≡ Some element) × OnLengthOf (row_with element) step
      × (step.first ≡ 1) × (after.0 ≡ owing before.0 before.0.busy)
      × (after.1 ≡ before.1)

  -- the seat gives back the element that it works on, with a job; this job is put
  abbrev pub makes_ready : Told J
  makes_ready step before found after =
      (job : J) × (before.1 ≡ (step.word, Some job) ∷ rest before.1)
      × (after.0
      ≡ view_of before.0.parts (before.0.puts ++ job ∷ []) before.0.takes None None before.0.notes)
      × (after.1 ≡ rest before.1)

  -- after a claim that found the element ready, the seat has the element, and its slot with the
  -- job; this job is taken, and what is known about the row's jobs is known about it
  abbrev pub claims_out : (ℕ → J → Type 0) → Bool → (ℕ → ℕ) → Told J
  claims_out known counted shift step before found after =
      (found ≡ step.first
      → (job : J) × (after.0
      ≡ view_of before.0.parts before.0.puts (before.0.takes ++ job ∷ []) (Some step.word)
      (owed_where counted step.word)
      (moved shift (claimed step.word step.first step.first before.0.notes)))
      × (after.1 ≡ (step.word, Some job) ∷ before.1) × known (row_with step.word) job)
      × (found ≢ step.first → misses step before found after)

  -- the seat gives back the element that it works on, with no job
  abbrev pub makes_empty : Told J
  makes_empty step before found after =
      (before.1 ≡ (step.word, None) ∷ rest before.1)
      × (after.0
      ≡ view_of before.0.parts before.0.puts before.0.takes None before.0.owes before.0.notes)
      × (after.1 ≡ rest before.1)

  -- the seat lowers by one the length word of the row from which it took a job, once it has given
  -- the element back
  abbrev pub lowers : Told J
  lowers step before found after =
      (element : ℕ) × (before.0.busy ≡ None) × (before.0.owes ≡ Some element)
      × OnLengthOf (row_with element) step × (step.first ≡ 1) × (after.0 ≡ owing before.0 None)
      × (after.1 ≡ before.1)

  -- the seat loads a row's length word; the length is at most 1,024 plus the number of seats
  abbrev pub looks : ℕ → Told J
  looks seats step before found after =
      (row : ℕ) × OnLengthOf row step
      × (after.0 ≡ noted before.0 (looked_at row found before.0.notes))
      × (after.1 ≡ before.1) × (found ≤ most_jobs + seats)

  -- the new seat has no account
  abbrev pub enters : Told J
  enters step before found after = after ≡ (nothing, [])
