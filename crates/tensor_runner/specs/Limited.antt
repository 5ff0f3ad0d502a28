-- The limits of a server, and the lines that answer texts under limits.
use Rattle.std.specs.Prelude.{◌≡◌, ◌⊎◌, ◌≤◌, ℕ, nat_lt, Bool, false, if◌then◌else◌, decimal, codes}
use Rattle.std.specs.Prelude.{List, [], ◌∷◌, ◌++◌, length, min, Option, Some, None, IsSome}
use Rattle.std.specs.Prelude.{Result, Ok, Err, IsOk, is_some, ◌||◌}
use Rattle.expr_reader.specs.Limits.{most_bytes}
use Rattle.expr_reader.specs.Request.{Asked, request_of}
use Rattle.expr_reader.specs.declared.fault.Fault.{Fault}
use Rattle.expr_reader.specs.declared.fault.Fault.TheVariants.{TooLong, NoMemory}
use Rattle.tensor_runner.specs.Answer.{Answer, answer_of, line_of, fault_line, IsAnswerTo}
use Rattle.message_server.specs.History.{History}
use Rattle.message_server.specs.Serving.{Framing, Answers, BreaksOff, CutsShort, GoesBy}
use Rattle.tensor_runner.specs.Lines.{AreWholeLines}
use Rattle.tensor_runner.specs.Run.{most_reads}
use Rattle.tensor_runner.specs.Status.{limit_number, limit_name}
use Rattle.tensor_runner.specs.Work.{steps_of}
use Rattle.tensor_runner.specs.declared.limits.LimitFault.{LimitFault}
use Rattle.tensor_runner.specs.declared.limits.LimitFault.TheVariants.{TooManyWorkers}
use Rattle.tensor_runner.specs.declared.limits.LimitFault.TheVariants.{TooManySteps}
use Rattle.tensor_runner.specs.declared.limits.LimitFault.TheVariants.{TooManySeconds}
use Rattle.tensor_runner.specs.declared.limits.Limits.{Limits}

-- limits that refuse no request
abbrev pub no_limits : Limits
no_limits = record { workers = None; steps = None; bytes = None; seconds = None }

-- whether a number is over a limit; `None` is no limit
abbrev pub is_over : Option ℕ → ℕ → Bool
is_over None n = false
is_over (Some most) n = nat_lt most n

-- the limit that a request is over, if any; the limit of workers comes first. How many seconds its
-- evaluation takes does not follow from the request, and is not asked here.
abbrev pub over_limits : Limits → Asked → Option LimitFault
over_limits limits a =
    if is_over limits.workers a.workers then Some TooManyWorkers
    else (if is_over limits.steps (steps_of a) then Some TooManySteps else None)

-- the steps of a request, if steps are limited or noted in a journal
abbrev pub steps_if : Limits → Bool → Asked → Option ℕ
steps_if limits logs a = if is_some limits.steps || logs then Some (steps_of a) else None

-- the limit that what was read is over, if any; a fault of the text comes before the limits
abbrev pub refusal : Limits → Result Asked Fault → Option LimitFault
refusal limits (Ok a) = over_limits limits a
refusal limits (Err f) = None

-- the line that says that a request is over a limit
abbrev pub limit_line : LimitFault → List ℕ
limit_line f = codes "error " ++ decimal (limit_number f) ++ 32 ∷ limit_name f ++ 10 ∷ []

-- the line of the limit if there is one, and otherwise the given line
abbrev pub line_unless : Option LimitFault → List ℕ → List ℕ
line_unless None line = line
line_unless (Some f) line = limit_line f

-- whether a text is longer than the limit of bytes; no more than `most_reads` bytes are counted
abbrev pub is_longer : Limits → List ℕ → Bool
is_longer limits text = is_over limits.bytes (min most_reads (length text))

-- the line that answers a text that may be so long: the line of the limit that its request is over,
-- or the line of its answer
abbrev pub line_read : Limits → List ℕ → List ℕ
line_read limits text = line_unless (refusal limits (request_of text)) (line_of (answer_of text))

-- the line that answers a text under limits; a text that is longer than the limit of bytes is too
-- long, whatever it asks for
abbrev pub line_within : Limits → List ℕ → List ℕ
line_within limits text =
    if is_longer limits text then fault_line TooLong else line_read limits text

-- the evaluation may be stopped: seconds are limited, and what was read is a request that is over
-- no other limit
pub record MayStop (limits : Limits) (read : Result Asked Fault) : Type 0 where
  pub limited : IsSome limits.seconds
  pub asks : IsOk read
  pub allowed : refusal limits read ≡ None

-- the line says that a text takes too many seconds, and its evaluation may be stopped
abbrev pub IsStoppedLine : Limits → List ℕ → List ℕ → Type 0
IsStoppedLine limits text line =
    (line ≡ limit_line TooManySeconds) × MayStop limits (request_of text)

-- the line that answers a text under limits, or the line of `NoMemory`, or the line of a text that
-- takes too many seconds; a text that is too long is never answered by these two
abbrev pub IsLineWithin : Limits → List ℕ → List ℕ → Type 0
IsLineWithin limits text line =
    (line ≡ line_within limits text)
    ⊎ (((line ≡ fault_line NoMemory) × (length text ≤ most_bytes)
    × (is_longer limits text ≡ false))
    ⊎ (IsStoppedLine limits text line × (is_longer limits text ≡ false)))

-- without limits, a line that answers a text is the line of an answer to it
abbrev pub PlainWithoutLimits : Type 0
PlainWithoutLimits =
    (text line : List ℕ) → IsLineWithin no_limits text line
    → (a : Answer) × IsAnswerTo text a × (line ≡ line_of a)

-- lines as messages that are answered under limits
abbrev pub lines_within : Limits → Framing (List ℕ)
lines_within limits =
    record { AreWhole = AreWholeLines; IsAnswer = IsLineWithin limits; bytes_of = λ line. line }

-- the sink holds what it held before, followed by the answers to all these lines under limits
abbrev pub AnswersLinesWithin : Limits → List (List ℕ) → List ℕ → Option (List ℕ) → Type 0
AnswersLinesWithin limits lines held contents = Answers (lines_within limits) lines held contents

-- the reading stopped: the sink holds what it held before, followed by the answers under limits to
-- the lines that were whole in the bytes that were read
abbrev pub BreaksOffWithin : Limits → List ℕ → List ℕ → Option (List ℕ) → Option (List ℕ)
    → Type 0
BreaksOffWithin limits text held remaining contents =
    BreaksOff (lines_within limits) text held remaining contents

-- the writing stopped: the sink holds what it held before, followed by a proper prefix of the
-- answers to all these lines under limits
abbrev pub CutsLinesShortWithin : Limits → List (List ℕ) → List ℕ → Option (List ℕ) → Type 0
CutsLinesShortWithin limits lines held contents = CutsShort (lines_within limits) lines held contents

-- a client agrees: if each whole line is answered under limits and nothing else was written, it is
-- owed nothing
abbrev pub GoesByLinesWithin : Limits → (History → Type 0) → Type 0
GoesByLinesWithin limits owes_nothing = GoesBy (lines_within limits) owes_nothing
