-- The lengths of rows: which words they are, and what they count.
use Rattle.std.specs.Prelude.{ℕ, suc, ◌+◌, ◌*◌, ◌==◌, if◌then◌else◌, List, [], ◌∷◌}
use Rattle.std.specs.Prelude.{Option, Some, None}
use mathlib.Core.Option.{some, none}
use mathlib.Core.Option as maybe
use Rattle.run_queue.specs.Elements.{ready_word}
use Rattle.run_queue.specs.Positions.{row_with}

-- how many words a cache line has
abbrev pub line_words : ℕ
line_words = 8

-- the word with the length of a row, after the words of all elements; each length lies a cache line
-- behind the length before it, and the first lies a line behind the elements
abbrev pub length_word : ℕ → ℕ → ℕ
length_word elements row = elements + line_words * (row + 1)

-- 1 if the element belongs to the row, else 0
abbrev pub in_row : ℕ → ℕ → ℕ
in_row row element = if row_with element == row then 1 else 0

-- 1 if the view owes the row a job, else 0: the row's length counts one more than its jobs at home
abbrev pub owed_to : ℕ → Option ℕ → ℕ
owed_to row None = 0
owed_to row (Some element) = in_row row element

-- the sum of f over the values of the list and their places; the first value has the place k
abbrev pub total_at : {A : Type 0} → (ℕ → A → ℕ) → ℕ → List A → ℕ
total_at f k [] = 0
total_at f k (x ∷ xs) = f k x + total_at f (suc k) xs

-- 1 if the element belongs to the row and its word says ready, else 0
abbrev pub ready_in_row : ℕ → ℕ → ℕ → ℕ
ready_in_row row element word = if word == ready_word then in_row row element else 0

-- how many elements of the row are ready
abbrev pub ready_in : ℕ → List ℕ → ℕ
ready_in row words = total_at (ready_in_row row) 0 words

-- 1 if the element belongs to the row and its job is at home, else 0
abbrev pub job_in_row : {J : Type 0} → ℕ → ℕ → maybe.Option (Option J) → ℕ
job_in_row row element none = 0
job_in_row row element (some None) = 0
job_in_row row element (some (Some job)) = in_row row element
