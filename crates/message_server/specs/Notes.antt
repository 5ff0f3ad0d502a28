-- Answers together with the notes that a server makes of them, for example in a log.
use Rattle.std.specs.Prelude.{◌≡◌, ◌<◌, ℕ, List, [], ◌∷◌, ◌++◌, length, map, take}
use Rattle.std.specs.Prelude.{Option, Some, IfSome, option_map}
use Rattle.message_server.specs.Parting.{Parting, AreAll, BeginsWith}
use Rattle.message_server.specs.Serving.{Framing, AreAnswers, bytes_answering}

-- the notes with these behind them, if notes are known
abbrev pub adding : {N : Type 0} → List N → Option (List N) → Option (List N)
adding more notes = option_map (λ l. l ++ more) notes

-- if the notes are still known, they are those before with these behind them
abbrev pub Adds : {N : Type 0} → List N → Option (List N) → Option (List N) → Type 0
Adds more before after = IfSome after (λ notes. adding more before ≡ Some notes)

-- the same kind of message, with a note for each answer. `IsNote` says which note a message and its
-- answer get.
abbrev pub noting : {A N : Type 0} → Framing A → (List ℕ → A → N → Type 0) → Framing (A × N)
noting f IsNote = record {
  AreWhole = f.AreWhole;
  IsAnswer = λ message answer. f.IsAnswer message answer.0 × IsNote message answer.0 answer.1;
  bytes_of = λ answer. f.bytes_of answer.0;
}

-- the notes on these answers
abbrev pub notes_on : {A N : Type 0} → List (A × N) → List N
notes_on answers = map (λ answer. answer.1) answers

module _ {A N : Type 0} (f : Framing (A × N)) where
  -- the sink holds what it held before, followed by the answers to all these messages and then
  -- `rest`. The notes on these answers, and no others, were made.
  pub record Notes (messages : List (List ℕ)) (held rest : List ℕ) (contents : Option (List ℕ))
      (before after : Option (List N)) : Type 0 where
    pub answers : List (A × N)
    pub answered : AreAnswers f messages answers
    pub written : contents ≡ Some (held ++ (bytes_answering f answers ++ rest))
    pub noted : Adds (notes_on answers) before after

  -- the writing stopped: these messages were answered and noted, and a proper prefix of the answer
  -- to the message `next` was written, which is not noted
  pub record NotesShort (messages : List (List ℕ)) (next held : List ℕ)
      (contents : Option (List ℕ)) (before after : Option (List N)) : Type 0 where
    pub answer : A × N
    pub answers_next : f.IsAnswer next answer
    pub front : ℕ
    pub short : front < length (f.bytes_of answer)
    pub noted : Notes messages held (take front (f.bytes_of answer)) contents before after

  -- the reading stopped: the messages that were whole in the bytes that were read were answered and
  -- noted
  pub record NotesWhole (stream held : List ℕ) (remaining contents : Option (List ℕ))
      (before after : Option (List N)) : Type 0 where
    pub taken : List ℕ
    pub rest : List ℕ
    pub parted : stream ≡ taken ++ rest
    pub left : remaining ≡ Some rest
    pub messages : List (List ℕ)
    pub whole : f.AreWhole taken messages
    pub noted : Notes messages held [] contents before after

  module _ (p : Parting) where
    -- all messages of the stream were answered and noted
    pub record NotesAll (stream held : List ℕ) (contents : Option (List ℕ))
        (before after : Option (List N)) : Type 0 where
      pub messages : List (List ℕ)
      pub all : AreAll p stream messages
      pub noted : Notes messages held [] contents before after

    -- the writing stopped in the answer to a message of the stream: the messages before it were
    -- answered and noted
    pub record NotesSome (stream held : List ℕ) (contents : Option (List ℕ))
        (before after : Option (List N)) : Type 0 where
      pub messages : List (List ℕ)
      pub next : List ℕ
      pub begun : BeginsWith p stream (messages ++ next ∷ [])
      pub short : NotesShort messages next held contents before after
