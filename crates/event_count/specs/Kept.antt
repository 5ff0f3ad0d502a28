-- What a seat knows of words that other seats may change.
use Rattle.std.specs.Prelude.{◌≡◌, ◌≢◌, ℕ, ◌+◌, ◌<◌, ◌≤◌, Bool, List, [], ◌∷◌, length, slice_index}
use Rattle.std.specs.Prelude.{Option, IfSome, MatchBool}
use Rattle.event_word.specs.Fields.{fields_of}
use Rattle.event_word.specs.Word.{nobody}
use Rattle.event_word.specs.Lists.{times}
use Rattle.event_word.specs.Shown.{top_of}
use Rattle.event_word.specs.World.{World}
use Rattle.event_count.specs.declared.view.Card.{Card}
use Rattle.event_count.specs.Places.{next_place}
use Rattle.event_count.specs.Written.{next_fields}

-- While this push of the seat is on the stack, the seat's next word is the word that was read. No
-- later push has this epoch.
abbrev pub IsKept : List ℕ → World → (ℕ → ℕ) → ℕ → ℕ → ℕ → Type 0
IsKept words w epochs seat epoch next =
    0 < times seat w.stack → epochs seat ≡ epoch + 1
    → slice_index words (next_place seat) ≡ next

-- what the seat of this number knows of words: its own next word has what it stored; the top of its
-- looked word was pushed; and the top's next word is what it read, while that push is on the stack
pub record KnowsWords (words : List ℕ) (w : World) (epochs : ℕ → ℕ) (number stored looked : ℕ)
    (next : Option ℕ) : Type 0 where
  pub stores : slice_index words (next_place number) ≡ stored
  pub past : (fields_of looked).top ≢ nobody
      → ((fields_of looked).epoch < epochs (fields_of looked).top)
      × IfSome next (IsKept words w epochs (fields_of looked).top (fields_of looked).epoch)

-- what the seat of this card knows of words
abbrev pub Knows : List ℕ → World → (ℕ → ℕ) → Card → Type 0
Knows words w epochs c = KnowsWords words w epochs c.number c.stored c.looked c.next

-- each seat's next word names the seat behind it, and the last seat's next word names nobody
abbrev pub Chain : List ℕ → List ℕ → Type 0
Chain words [] = Unit {0}
Chain words (seat ∷ rest) = ((next_fields words seat).top ≡ top_of rest) × Chain words rest

-- the owed seats are linked by their next words, or there is at most one
abbrev pub AreLinked : List ℕ → Bool → List ℕ → Type 0
AreLinked words linked owing = MatchBool linked (Chain words owing) (length owing ≤ 1)

-- the owed seats of this card are linked, or there is at most one
abbrev pub Links : List ℕ → Card → Type 0
Links words c = AreLinked words c.linked c.owing
