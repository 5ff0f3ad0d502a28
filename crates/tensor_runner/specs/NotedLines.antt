-- The answers to lines under limits, and the notes that a journal gets of them.
use Rattle.std.specs.Prelude.{◌≡◌, ℕ, List, [], ◌∷◌, ◌++◌, Bool, Option}
use Rattle.message_server.specs.Notes.{noting, Notes, NotesShort, NotesWhole}
use Rattle.message_server.specs.Serving.{Framing}
use Rattle.tensor_runner.specs.Journal.{IsEntry}
use Rattle.tensor_runner.specs.Limited.{lines_within}
use Rattle.tensor_runner.specs.declared.journal.Entry.{Entry}
use Rattle.tensor_runner.specs.declared.limits.Limits.{Limits}

-- lines as messages that are answered under limits, with an entry for each answer. `logs` says
-- whether the journal notes steps.
abbrev pub noted_lines : Limits → Bool → Framing (List ℕ × Entry)
noted_lines limits logs = noting (lines_within limits) (IsEntry limits logs)

module _ (limits : Limits) (logs : Bool) where
  -- all these lines were answered under limits, and nothing else was written. The journal got the
  -- entries on these answers, in order, and no others.
  abbrev pub NotesLines : List (List ℕ) → List ℕ → Option (List ℕ)
      → Option (List Entry) → Option (List Entry) → Type 0
  NotesLines lines held contents before after =
      Notes (noted_lines limits logs) lines held [] contents before after

  -- the reading stopped: the lines that were whole in the bytes that were read were answered and
  -- noted
  abbrev pub NotesWholeLines : List ℕ → List ℕ → Option (List ℕ) → Option (List ℕ)
      → Option (List Entry) → Option (List Entry) → Type 0
  NotesWholeLines text held remaining contents before after =
      NotesWhole (noted_lines limits logs) text held remaining contents before after

  -- the writing stopped in the answer to one of these lines: the lines before it were answered and
  -- noted
  pub record NotesSomeLines (lines : List (List ℕ)) (held : List ℕ) (contents : Option (List ℕ))
      (before after : Option (List Entry)) : Type 0 where
    pub done : List (List ℕ)
    pub next : List ℕ
    pub more : List (List ℕ)
    pub parted : lines ≡ done ++ next ∷ more
    pub short : NotesShort (noted_lines limits logs) done next held contents before after
