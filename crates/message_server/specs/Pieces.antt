-- Bytes between a client and the server, for private clauses.
use Rattle.std.specs.Prelude.{◌≡◌, ◌<◌, ◌-◌, ℕ, List, ◌++◌, length, take, drop, Option, option_map}
use Rattle.std.specs.Io.KnownBytes.{Appends, Consumes}
use Rattle.message_server.specs.History.{History, reading}
use Rattle.message_server.specs.declared.buffer.InputBuffer.{InputBuffer}

-- a proper prefix of the bytes was appended
abbrev pub AppendsFront : Option (List ℕ) → Option (List ℕ) → List ℕ → Type 0
AppendsFront old new bytes =
    (taken : ℕ) × (taken < length bytes) × Appends old new (take taken bytes)

-- the bytes that were read and belong to no message yet
abbrev pub pending_bytes : InputBuffer → List ℕ
pending_bytes b = take (b.end - b.start) (drop b.start b.bytes)

-- the bytes are fewer than `count`
abbrev pub IsBelow : ℕ → List ℕ → Type 0
IsBelow count bytes = length bytes < count

-- whatever is read next, no answer is owed as long as the pending bytes satisfy `Kind`
abbrev pub OwesNothingWhile : (List ℕ → Type 0) → (History → Type 0) → List ℕ → History
    → Type 0
OwesNothingWhile Kind owes_nothing pending h =
    (more : List ℕ) → Kind (pending ++ more) → owes_nothing (reading more h)

-- these bytes were read from the stream and noted in the history
pub record Reads (before after : Option (List ℕ)) (h k : Option History) (bytes : List ℕ)
    : Type 0 where
  pub consumed : Consumes before after bytes
  pub noted : k ≡ option_map (reading bytes) h

-- these bytes were taken from the front of the pending bytes, behind which more may have been read
pub record Takes (before after : Option (List ℕ)) (h k : Option History) (old new : List ℕ)
    (bytes : List ℕ) : Type 0 where
  pub read : List ℕ
  pub reads : Reads before after h k read
  pub parted : old ++ read ≡ bytes ++ new

-- some bytes were read, and the pending bytes together with them satisfy `Kind`
pub record FailsIn (Kind : List ℕ → Type 0) (before after : Option (List ℕ)) (old : List ℕ)
    : Type 0 where
  pub read : List ℕ
  pub consumed : Consumes before after read
  pub kind : Kind (old ++ read)
