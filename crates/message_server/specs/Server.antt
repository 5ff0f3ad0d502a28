-- How far the loop has answered the messages of a client, for private clauses.
use Rattle.std.specs.Prelude.{◌≡◌, ℕ, List, ◌++◌, All, Option, IfSome}
use Rattle.std.specs.Io.KnownBytes.{Appends, Consumes}
use Rattle.message_server.specs.History.{History}
use Rattle.message_server.specs.Notes.{Adds, notes_on}
use Rattle.message_server.specs.Parting.{Parting, joined}
use Rattle.message_server.specs.Serving.{Framing, AreAnswers, bytes_answering}

-- the history has exactly these bytes read and these bytes written
abbrev pub IsAllOf : List ℕ → List ℕ → History → Type 0
IsAllOf taken written h = (h.taken ≡ taken) × (h.written ≡ written)

-- each message before the pending bytes was answered and noted, and nothing else was written
pub record Serves {A N : Type 0} (f : Framing (A × N)) (p : Parting)
    (before after had contents : Option (List ℕ)) (h : Option History)
    (notes journal : Option (List N)) (pending : List ℕ) : Type 0 where
  pub done : List (List ℕ)
  pub answers : List (A × N)
  pub consumed : Consumes before after (joined p done ++ pending)
  pub whole : All p.IsMessage done
  pub answered : AreAnswers f done answers
  pub appended : Appends had contents (bytes_answering f answers)
  pub noted : IfSome h (IsAllOf (joined p done ++ pending) (bytes_answering f answers))
  pub added : Adds (notes_on answers) notes journal
