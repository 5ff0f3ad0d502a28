-- What a program ends with that answers lines under limits.
use Rattle.std.specs.Prelude.{ℕ, List, Option}
use Rattle.message_server.specs.Ending.{EndsServing}
use Rattle.message_server.specs.Streams.{HasFailed}
use Rattle.message_server.specs.declared.ending.Ending.{Ending}
use Rattle.tensor_runner.specs.Limited.{AnswersLinesWithin, BreaksOffWithin, CutsLinesShortWithin}
use Rattle.tensor_runner.specs.Lines.{lines_of}
use Rattle.tensor_runner.specs.declared.limits.Limits.{Limits}

-- the program ends in one of three ways: all lines were answered, a read failed, or a write failed.
-- `reads` and `writes` are the numbers of failures of each stream, before and after.
abbrev pub EndsWithin : Limits
    → Option (List ℕ) → Option (List ℕ) → Option (List ℕ) → Option (List ℕ)
    → ℕ × ℕ → ℕ × ℕ → Ending → Type 0
EndsWithin limits text remaining held contents reads writes e =
    EndsServing (λ t h. AnswersLinesWithin limits (lines_of t) h contents)
    (λ t h. BreaksOffWithin limits t h remaining contents)
    (λ t h. CutsLinesShortWithin limits (lines_of t) h contents)
    (HasFailed reads.0 reads.1) text held reads writes e
