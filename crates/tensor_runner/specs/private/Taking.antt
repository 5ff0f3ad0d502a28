-- Bytes that are taken from a client into a line, for the private clauses of the server.
use Rattle.std.specs.Prelude.{◌≡◌, ◌==◌, ℕ, List, [], ◌∷◌, ◌++◌, All}
use Rattle.std.specs.Prelude.{Bool, false, if◌then◌else◌, Option}
use Rattle.std.specs.List.{flat_map}
use Rattle.message_server.specs.History.{History}
use Rattle.message_server.specs.Pieces.{Takes}
use Rattle.tensor_runner.specs.private.Kept.{IsKept}
use Rattle.tensor_runner.specs.declared.kept.KeptText.{KeptText}

-- no byte of the line is a line feed
abbrev pub HasNoFeed : List ℕ → Type 0
HasNoFeed line = All (λ b. (b == 10) ≡ false) line

-- lines, each with its line feed
abbrev pub with_feeds : List (List ℕ) → List ℕ
with_feeds lines = flat_map (λ line. line ++ 10 ∷ []) lines

-- what follows a piece: the line feed if it ended the piece, and the bytes left
abbrev pub behind : Bool → List ℕ → List ℕ
behind ended left = if ended then 10 ∷ left else left

-- the bytes up to the first line feed were taken, and the line feed, or all bytes if there is none
pub record TakesPiece (old new : List ℕ) (ended : Bool) (before after : KeptText) : Type 0 where
  pub piece : List ℕ
  pub no_feed : HasNoFeed piece
  pub parted : old ≡ piece ++ behind ended new
  pub emptied : ended ≡ false → new ≡ []
  pub kept : (line : List ℕ) → IsKept line before → IsKept (line ++ piece) after

-- the bytes of a line were taken so far, and no line feed yet
pub record InLine (before after : Option (List ℕ)) (h k : Option History) (old now : List ℕ)
    (kept : KeptText) : Type 0 where
  pub line : List ℕ
  pub takes : Takes before after h k old now line
  pub no_feed : HasNoFeed line
  pub kept_of : IsKept line kept
