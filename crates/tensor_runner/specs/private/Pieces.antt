-- Pieces of a text that were read, for the private clauses of the engine.
use Rattle.std.specs.Prelude.{◌≡◌, ◌≤◌, ◌+◌, ℕ, List, ◌++◌, length, Option}
use Rattle.std.specs.Io.KnownBytes.{Consumes, IsAtEnd}
use Rattle.tensor_runner.specs.private.Kept.{IsKept, kept_len}
use Rattle.tensor_runner.specs.Run.{most_reads, IsLeft}
use Rattle.tensor_runner.specs.declared.kept.KeptText.{KeptText}

-- the prefix of a stream that is read as a text is kept, and the rest of the stream is left
pub record IsFrontOf (all : List ℕ) (kept : KeptText) (remaining : Option (List ℕ)) : Type 0 where
  pub taken : IsKept all kept
  pub left : IsLeft all remaining

-- `count` bytes were taken and kept behind those that were there; none were taken only if the
-- stream is at its end
pub record Takes (before after : Option (List ℕ)) (old new : KeptText) (count : ℕ) : Type 0 where
  pub bytes : List ℕ
  pub behind : (text : List ℕ) → IsKept text old → IsKept (text ++ bytes) new
  pub counted : length bytes ≡ count
  pub room : kept_len old + count ≤ most_reads
  pub consumed : Consumes before after bytes
  pub ended : count ≡ 0 → IsAtEnd after

-- the bytes taken so far are at most as many as are read of a text, and `kept` is what is kept of
-- them
pub record HasTaken (before after : Option (List ℕ)) (kept : KeptText) : Type 0 where
  pub bytes : List ℕ
  pub room : length bytes ≤ most_reads
  pub kept_of : IsKept bytes kept
  pub consumed : Consumes before after bytes
