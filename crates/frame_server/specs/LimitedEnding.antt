-- What a program ends with that answers frames under limits.
use Rattle.std.specs.Prelude.{ℕ, List, Option}
use Rattle.message_server.specs.Ending.{EndsServing}
use Rattle.message_server.specs.declared.ending.Ending.{Ending}
use Rattle.tensor_runner.specs.declared.limits.Limits.{Limits}
use Rattle.frame_server.specs.Limited.{AnswersFramesWithin, BreaksOffWithin}
use Rattle.frame_server.specs.Limited.{CutsFramesShortWithin}
use Rattle.frame_server.specs.Stream.{StopsReading}

-- the program ends in one of three ways: all frames were answered, the reading stopped, or a write
-- failed. `reads` and `writes` are the numbers of failures of each stream, before and after.
abbrev pub EndsWithin : Limits
    → Option (List ℕ) → Option (List ℕ) → Option (List ℕ) → Option (List ℕ)
    → ℕ × ℕ → ℕ × ℕ → Ending → Type 0
EndsWithin limits stream remaining held contents reads writes e =
    EndsServing (λ s h. AnswersFramesWithin limits s h contents)
    (λ s h. BreaksOffWithin limits s h remaining contents)
    (λ s h. CutsFramesShortWithin limits s h contents)
    (StopsReading reads.0 reads.1 stream remaining) stream held reads writes e
