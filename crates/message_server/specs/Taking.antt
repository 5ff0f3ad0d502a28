-- What a call of `take` takes from a client's bytes, for the clauses of a protocol.
use Rattle.std.specs.Prelude.{◌≡◌, ◌⊎◌, ℕ, List, [], ◌∷◌, ◌++◌, Option}
use Rattle.std.specs.Io.KnownBytes.{Consumes, IsAtEnd}
use Rattle.message_server.specs.History.{History}
use Rattle.message_server.specs.Parting.{Parting, IsCut}
use Rattle.message_server.specs.Pieces.{Reads, Takes}
use Rattle.message_server.specs.Streams.{HasFailed}
use Rattle.message_server.specs.declared.protocol.Next.{Next}
use Rattle.message_server.specs.declared.protocol.Next.TheVariants as next

-- the client's bytes ended, and these messages stand in the pending bytes and those that were read
pub record EndsBy (p : Parting) (before after : Option (List ℕ)) (h k : Option History)
    (old : List ℕ) (last : List (List ℕ)) : Type 0 where
  pub read : List ℕ
  pub reads : Reads before after h k read
  pub ending : p.AreLast (old ++ read) last
  pub at_end : IsAtEnd after

module _ {M : Type 0} (p : Parting) (IsKept : List ℕ → M → Type 0) where
  -- a message was taken together with what ends it, and `kept` is what is kept of it
  pub record TakesMessage (before after : Option (List ℕ)) (h k : Option History)
      (old new : List ℕ) (kept : M) : Type 0 where
    pub message : List ℕ
    pub takes : Takes before after h k old new (p.with_end message)
    pub whole : p.IsMessage message
    pub kept_of : IsKept message kept

  -- a message was taken that the end of the client's bytes ends, and `kept` is what is kept of it
  pub record TakesLast (before after : Option (List ℕ)) (h k : Option History)
      (old : List ℕ) (kept : M) : Type 0 where
    pub message : List ℕ
    pub ends : EndsBy p before after h k old (message ∷ [])
    pub kept_of : IsKept message kept

  -- what was taken, for each result of `take`
  abbrev pub TakesNext : Option (List ℕ) → Option (List ℕ) → Option History → Option History
      → List ℕ → List ℕ → Next M → Type 0
  TakesNext before after h k old new (next.Message kept) =
      TakesMessage before after h k old new kept
  TakesNext before after h k old new (next.Last kept) = TakesLast before after h k old kept
  TakesNext before after h k old new next.End = EndsBy p before after h k old []

-- the reading stopped inside a message: a read failed, or the client's bytes ended. `failed` and
-- `fails` are the numbers of failed reads before and after.
pub record StopsIn (p : Parting) (before after : Option (List ℕ)) (failed fails : ℕ)
    (old : List ℕ) : Type 0 where
  pub read : List ℕ
  pub consumed : Consumes before after read
  pub unfinished : p.IsUnfinished (old ++ read)
  pub why : HasFailed failed fails
      ⊎ ((fails ≡ failed) × IsAtEnd after × IsCut p (old ++ read))
