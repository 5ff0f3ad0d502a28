-- The answer to a text, and the line that says it.
use Rattle.std.specs.Prelude.{◌≡◌, ◌⊎◌, ◌≤◌, ℕ, ℤ, pos, List, [], ◌∷◌, ◌++◌, length, map, codes}
use Rattle.std.specs.Prelude.{decimal, Result, Ok, Err}
use Rattle.std.specs.Fmt.{signed_decimal}
use Rattle.std.specs.List.{join_with_byte}
use Rattle.expr_reader.specs.Contents.{Contents}
use Rattle.expr_reader.specs.Faults.{number_and_name}
use Rattle.expr_reader.specs.Limits.{most_bytes}
use Rattle.expr_reader.specs.Place.{unlocated}
use Rattle.expr_reader.specs.Request.{Asked, asked_tensor, request_at}
use Rattle.expr_reader.specs.declared.fault.Fault.{Fault}
use Rattle.expr_reader.specs.declared.fault.Fault.TheVariants.{NoMemory}
use Rattle.tensor_runner.specs.declared.status.Status.{Status}
use Rattle.tensor_runner.specs.declared.status.Status.TheVariants as status

-- an answer: a tensor or a fault
pub data Answer : Type 0 where
  tensor : Contents → Answer
  fault : Fault → Answer

-- the tensor of a request, or the first fault of its text
abbrev pub answer_from : Result Asked Fault → Answer
answer_from (Ok asked) = tensor (asked_tensor asked)
answer_from (Err f) = fault f

-- the answer to a text
abbrev pub answer_of : List ℕ → Answer
answer_of text = answer_from (unlocated (request_at text))

-- numbers in decimal, with commas between them
abbrev pub numbers_text : List ℤ → List ℕ
numbers_text xs = join_with_byte 44 (map signed_decimal xs)

-- the line of an answer, with its line feed
abbrev pub line_of : Answer → List ℕ
line_of (tensor t) =
    codes "{\"data\":[" ++ (numbers_text t.values
    ++ (codes "],\"dims\":[" ++ (numbers_text (map pos t.dims) ++ (codes "]}" ++ 10 ∷ []))))
line_of (fault f) =
    codes "error " ++ decimal (number_and_name f).0 ++ 32 ∷ (number_and_name f).1 ++ 10 ∷ []

-- the line of a tensor
abbrev pub tensor_line : Contents → List ℕ
tensor_line t = line_of (tensor t)

-- the line of a fault
abbrev pub fault_line : Fault → List ℕ
fault_line f = line_of (fault f)

-- the status of a run that writes this answer
abbrev pub status_of : Answer → Status
status_of (tensor t) = status.Tensor
status_of (fault f) = status.Fault

-- the answer to the text, or the fault `NoMemory`; a text that is too long is never answered by
-- `NoMemory`
abbrev pub IsAnswerTo : List ℕ → Answer → Type 0
IsAnswerTo text a =
    (a ≡ answer_of text) ⊎ ((a ≡ fault NoMemory) × (length text ≤ most_bytes))
