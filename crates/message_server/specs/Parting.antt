-- How messages stand in a stream of bytes.
use Rattle.std.specs.Prelude.{◌≡◌, ◌⊎◌, ℕ, List, [], ◌++◌, All, Option, Some, IfSome}
use Rattle.std.specs.List.{flat_map}
use Rattle.message_server.specs.Serving.{Framing, Answers, CutsShort}
use Rattle.message_server.specs.Streams.{HasFailed}

-- how messages stand in a stream: `with_end` appends what ends a message, `IsMessage` says which
-- bytes are a message, and `IsUnfinished` which are a prefix of one. If the stream ends, `AreLast`
-- says which messages the bytes behind the last ended message are.
pub record Parting : Type 1 where
  pub with_end : List ℕ → List ℕ
  pub IsMessage : List ℕ → Type 0
  pub IsUnfinished : List ℕ → Type 0
  pub AreLast : List ℕ → List (List ℕ) → Type 0

module _ (p : Parting) where
  -- the bytes of these messages, each followed by what ends it
  abbrev pub joined : List (List ℕ) → List ℕ
  joined messages = flat_map p.with_end messages

  -- the bytes are these messages, followed by `rest`
  pub record IsParted (bytes : List ℕ) (messages : List (List ℕ)) (rest : List ℕ)
      : Type 0 where
    pub parted : bytes ≡ joined messages ++ rest
    pub whole : All p.IsMessage messages

  -- these are all messages of a stream: the ended ones, and what `AreLast` makes of the rest
  pub record AreAll (stream : List ℕ) (messages : List (List ℕ)) : Type 0 where
    pub done : List (List ℕ)
    pub rest : List ℕ
    pub parted : IsParted stream done rest
    pub last : List (List ℕ)
    pub ending : p.AreLast rest last
    pub all : messages ≡ done ++ last

  -- a stream begins with these messages, or consists of them
  abbrev pub BeginsWith : List ℕ → List (List ℕ) → Type 0
  BeginsWith stream messages =
      ((rest : List ℕ) × IsParted stream messages rest) ⊎ AreAll stream messages

  -- the bytes are a prefix of a message, and a stream that ends with them ends inside a message
  pub record IsCut (bytes : List ℕ) : Type 0 where
    pub unfinished : p.IsUnfinished bytes
    pub no_end : (last : List (List ℕ)) → ¬ p.AreLast bytes last

  -- a stream is ended messages followed by these bytes, and all of it was read
  pub record EndsWith (cut : List ℕ) (remaining : Option (List ℕ)) (stream : List ℕ)
      : Type 0 where
    pub done : List (List ℕ)
    pub parted : IsParted stream done cut
    pub nothing : remaining ≡ Some []

  -- the reading stopped: either a read failed, or the bytes ended inside a message. `failed` and
  -- `fails` are the numbers of failed reads before and after.
  abbrev pub StopsReading : ℕ → ℕ → Option (List ℕ) → Option (List ℕ) → Type 0
  StopsReading failed fails before after =
      HasFailed failed fails
      ⊎ ((fails ≡ failed) × (cut : List ℕ) × IsCut cut × IfSome before (EndsWith cut after))

  module _ {A : Type 0} (f : Framing A) where
    -- the sink holds what it held before, followed by the answers to all messages of the stream
    pub record AnswersAll (stream held : List ℕ) (contents : Option (List ℕ)) : Type 0 where
      pub messages : List (List ℕ)
      pub all : AreAll stream messages
      pub answered : Answers f messages held contents

    -- the writing stopped: the sink holds what it held before, followed by a proper prefix of the
    -- answers to some messages with which the stream begins
    pub record CutsSome (stream held : List ℕ) (contents : Option (List ℕ)) : Type 0 where
      pub messages : List (List ℕ)
      pub begun : BeginsWith stream messages
      pub short : CutsShort f messages held contents

    -- the two laws of a kind of message: the messages before an unfinished one are the whole
    -- messages, and bytes have their whole messages in one way only
    pub record Laws : Type 0 where
      pub whole : (done : List (List ℕ)) (cut : List ℕ) → All p.IsMessage done
          → p.IsUnfinished cut → f.AreWhole (joined done ++ cut) done
      pub one_way : (bytes : List ℕ) (messages others : List (List ℕ))
          → f.AreWhole bytes messages → f.AreWhole bytes others → messages ≡ others
