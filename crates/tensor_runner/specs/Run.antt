-- What `run` reads and writes.
use Rattle.std.specs.Prelude.{◌≡◌, ◌<◌, ◌≤◌, ℕ, ◌+◌, List, ◌++◌, length, take, drop, Option, Some}
use Rattle.std.specs.Io.KnownBytes.{Consumes}
use Rattle.expr_reader.specs.Limits.{most_bytes}
use Rattle.tensor_runner.specs.Answer.{Answer, IsAnswerTo, line_of, status_of}
use Rattle.tensor_runner.specs.declared.status.Status.{Status}

-- the most reads, of one byte or more each, and the most bytes that are read; it is one more than a
-- text may have, so that a text that is too long is found out
abbrev pub most_reads : ℕ
most_reads = 16777217

-- at most `most` bytes were taken from the stream
pub record TakesAtMost (most : ℕ) (before after : Option (List ℕ)) : Type 0 where
  pub bytes : List ℕ
  pub within : length bytes ≤ most
  pub consumed : Consumes before after bytes

-- the stream still has what follows the first `most_reads` bytes of the text
abbrev pub IsLeft : List ℕ → Option (List ℕ) → Type 0
IsLeft text remaining = remaining ≡ Some (drop most_reads text)

-- the sink holds what it held before, followed by the whole line of an answer to the text. At most
-- one byte more was read than a text may have, and the status is the status of the answer.
pub record Answers (text held : List ℕ) (remaining contents : Option (List ℕ)) (status : Status)
    : Type 0 where
  pub answer : Answer
  pub answers : IsAnswerTo text answer
  pub left : remaining ≡ Some (drop (most_bytes + 1) text)
  pub written : contents ≡ Some (held ++ line_of answer)
  pub told : status ≡ status_of answer

-- the sink holds what it held before, followed by a proper prefix of the line of an answer to the
-- text
pub record CutsShort (text held : List ℕ) (remaining contents : Option (List ℕ)) : Type 0 where
  pub answer : Answer
  pub answers : IsAnswerTo text answer
  pub left : IsLeft text remaining
  pub taken : ℕ
  pub short : taken < length (line_of answer)
  pub written : contents ≡ Some (held ++ take taken (line_of answer))
