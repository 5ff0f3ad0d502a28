-- The lines of a text.
use Rattle.std.specs.Prelude.{◌≡◌, ◌==◌, ℕ, List, [], ◌∷◌, if◌then◌else◌}
use Rattle.std.specs.List.{onto_first}

-- the lines of a text, without their line feeds; the bytes behind the last line feed are a line
-- unless there are none
abbrev pub lines_of : List ℕ → List (List ℕ)
lines_of [] = []
lines_of (b ∷ bs) = if b == 10 then [] ∷ lines_of bs else onto_first b (lines_of bs)

-- lines with a byte put in front of the first one, if there is a line
abbrev pub onto_whole : ℕ → List (List ℕ) → List (List ℕ)
onto_whole b [] = []
onto_whole b (line ∷ lines) = (b ∷ line) ∷ lines

-- the lines of a text that a line feed ends
abbrev pub whole_lines : List ℕ → List (List ℕ)
whole_lines [] = []
whole_lines (b ∷ bs) = if b == 10 then [] ∷ whole_lines bs else onto_whole b (whole_lines bs)

-- these are the lines in the bytes that a line feed ends
abbrev pub AreWholeLines : List ℕ → List (List ℕ) → Type 0
AreWholeLines bytes lines = lines ≡ whole_lines bytes
