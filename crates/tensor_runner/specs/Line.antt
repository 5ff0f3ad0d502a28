-- The line that answers a text, before it is written.
use Rattle.std.specs.Prelude.{◌≡◌, ◌≢◌, ◌⊎◌, ◌≤◌, ℕ, ℤ, List, [], ◌∷◌, ◌++◌, length, map}
use Rattle.std.specs.Prelude.{Option, Some, None, Bool, MatchBool}
use Rattle.expr_reader.specs.Limits.{most_bytes}
use Rattle.std.specs.Cow.{cow_slice_items}
use Rattle.serde_json.specs.Data.{Data, Items, number}
use Rattle.serde_json.specs.View.{items_of}
use Rattle.serde_json.specs.Find.{of_integer}
use Rattle.expr_reader.specs.Request.{request_of}
use Rattle.expr_reader.specs.Contents.{Contents}
use Rattle.tensor_runner.specs.Answer.{Answer, fault, line_of, tensor_line, fault_line, status_of}
use Rattle.tensor_runner.specs.Answer.{IsAnswerTo, numbers_text}
use Rattle.tensor_runner.specs.Journal.{Says, HasSteps}
use Rattle.tensor_runner.specs.Limited.{refusal, is_longer, line_read, IsStoppedLine}
use Rattle.tensor_runner.specs.Run.{IsLeft}
use Rattle.expr_reader.specs.declared.fault.Fault.{Fault}
use Rattle.expr_reader.specs.declared.fault.Fault.TheVariants.{TooLong, NoMemory}
use Rattle.tensor_runner.specs.declared.answer.Line.{Line}
use Rattle.tensor_runner.specs.declared.journal.AnyFault.TheVariants.{Request}
use Rattle.tensor_runner.specs.declared.journal.Entry.{Entry}
use Rattle.tensor_runner.specs.declared.limits.Limits.{Limits}
use Rattle.tensor_runner.specs.declared.status.Status.TheVariants as status

-- a number as JSON
abbrev pub integer : ℤ → Data
integer x = number (of_integer x)

-- numbers in brackets, with commas between them
abbrev pub bracketed : List ℤ → List ℕ
bracketed xs = 91 ∷ (numbers_text xs ++ 93 ∷ [])

-- numbers as the items of an array
abbrev pub integers : List ℤ → Items
integers xs = items_of (map integer xs)

-- the fault answers the text
abbrev pub IsFaultOf : List ℕ → Fault → Type 0
IsFaultOf text f = IsAnswerTo text (fault f)

-- the line says this fault
pub record IsFaultLine (f : Fault) (line : Line) : Type 0 where
  pub bytes : cow_slice_items line.bytes ≡ fault_line f
  pub fault : line.fault ≡ Some (Request f)

-- the line says this fault, or it says `NoMemory` and the fault is not `TooLong`
abbrev pub IsRefusal : Fault → Line → Type 0
IsRefusal f line = IsFaultLine f line ⊎ (IsFaultLine NoMemory line × (f ≢ TooLong))

-- the line says this tensor, or it says `NoMemory`
abbrev pub IsTensorLine : Contents → Line → Type 0
IsTensorLine t line =
    ((cow_slice_items line.bytes ≡ tensor_line t) × (line.fault ≡ None) × (line.status ≡ status.Tensor))
    ⊎ (IsFaultLine NoMemory line × (line.status ≡ status.Fault))

-- the journal's note on a text of `bytes` bytes that this line answers
abbrev pub entry_of : ℕ → Line → Entry
entry_of bytes line =
    record {
      bytes = bytes;
      answered = length (cow_slice_items line.bytes);
      fault = line.fault;
      steps = line.steps;
    }

-- the line has the bytes and the status of an answer to the text
pub record IsLineFor (text : List ℕ) (line : Line) : Type 0 where
  pub answer : Answer
  pub answers : IsAnswerTo text answer
  pub written : cow_slice_items line.bytes ≡ line_of answer
  pub status : line.status ≡ status_of answer

-- the line that answers a text which may be so long, or the line of `NoMemory`, or the line of a
-- text that takes too many seconds
abbrev pub IsLineRead : Limits → List ℕ → List ℕ → Type 0
IsLineRead limits text line =
    (line ≡ line_read limits text)
    ⊎ (((line ≡ fault_line NoMemory) × (length text ≤ most_bytes))
    ⊎ IsStoppedLine limits text line)

-- the line answers a text which may be so long, and its fault and steps are those of the answer. If
-- the request is over no limit and seconds are not limited, the line is one of an answer to the
-- text. `logs` says whether a journal notes steps.
pub record IsLineUnder (limits : Limits) (logs : Bool) (text : List ℕ) (line : Line)
    : Type 0 where
  pub within : IsLineRead limits text (cow_slice_items line.bytes)
  pub own : refusal limits (request_of text) ≡ None → limits.seconds ≡ None → IsLineFor text line
  pub says : Says (cow_slice_items line.bytes) line.fault
  pub has : HasSteps limits logs (request_of text) line.fault line.steps

-- the line says that the text is longer than the limit of bytes, and has no steps
pub record SaysTooLong (line : Line) : Type 0 where
  pub says : IsFaultLine TooLong line
  pub none : line.steps ≡ None

-- the line answers the text under limits
abbrev pub IsLineFrom : Limits → Bool → List ℕ → Line → Type 0
IsLineFrom limits logs text line =
    MatchBool (is_longer limits text) (SaysTooLong line) (IsLineUnder limits logs text line)

-- the line answers the text, and the rest of the stream is left
pub record IsLineOfRead (text : List ℕ) (remaining : Option (List ℕ)) (line : Line) : Type 0 where
  pub answer : IsLineFor text line
  pub left : IsLeft text remaining
