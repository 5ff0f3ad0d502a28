-- The answers to messages, and when an answer is owed, for any kind of message.
use Rattle.std.specs.Prelude.{◌≡◌, ◌<◌, ℕ, List, ◌++◌, length, take, Option, Some}
use Rattle.std.specs.List.{AllZip, flat_map}
use Rattle.message_server.specs.History.{History}

-- a kind of message: `AreWhole` says which messages are whole in bytes that were read, `IsAnswer`
-- what answers a message, and `bytes_of` gives the bytes of an answer
pub record Framing (A : Type 0) : Type 1 where
  pub AreWhole : List ℕ → List (List ℕ) → Type 0
  pub IsAnswer : List ℕ → A → Type 0
  pub bytes_of : A → List ℕ

module _ {A : Type 0} (f : Framing A) where
  -- an answer to each message, in their order
  abbrev pub AreAnswers : List (List ℕ) → List A → Type 0
  AreAnswers messages answers = AllZip f.IsAnswer messages answers

  -- the bytes of these answers, one behind the other
  abbrev pub bytes_answering : List A → List ℕ
  bytes_answering answers = flat_map f.bytes_of answers

  -- the sink holds what it held before, followed by the answers to all these messages
  pub record Answers (messages : List (List ℕ)) (held : List ℕ) (contents : Option (List ℕ))
      : Type 0 where
    pub answers : List A
    pub answered : AreAnswers messages answers
    pub written : contents ≡ Some (held ++ bytes_answering answers)

  -- the reading stopped: the sink holds what it held before, followed by the answers to the
  -- messages that were whole in the bytes that were read
  pub record BreaksOff (stream held : List ℕ) (remaining contents : Option (List ℕ))
      : Type 0 where
    pub taken : List ℕ
    pub rest : List ℕ
    pub parted : stream ≡ taken ++ rest
    pub left : remaining ≡ Some rest
    pub messages : List (List ℕ)
    pub whole : f.AreWhole taken messages
    pub answered : Answers messages held contents

  -- the writing stopped: the sink holds what it held before, followed by a proper prefix of the
  -- answers to all these messages
  pub record CutsShort (messages : List (List ℕ)) (held : List ℕ) (contents : Option (List ℕ))
      : Type 0 where
    pub answers : List A
    pub answered : AreAnswers messages answers
    pub front : ℕ
    pub short : front < length (bytes_answering answers)
    pub written : contents ≡ Some (held ++ take front (bytes_answering answers))

  -- each message that is whole in the bytes that were read is answered, and nothing else was
  -- written
  pub record OwesNothing (h : History) : Type 0 where
    pub messages : List (List ℕ)
    pub whole : f.AreWhole h.taken messages
    pub answers : List A
    pub answered : AreAnswers messages answers
    pub written : h.written ≡ bytes_answering answers

  -- a client agrees: if each whole message is answered and nothing else was written, it is owed
  -- nothing
  abbrev pub GoesBy : (History → Type 0) → Type 0
  GoesBy owes_nothing = (h : History) → OwesNothing h → owes_nothing h
