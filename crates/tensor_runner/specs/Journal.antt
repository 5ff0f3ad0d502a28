-- What a journal notes of a request.
use Rattle.std.specs.Prelude.{◌≡◌, ◌⊎◌, ℕ, List, Option, Some, None, Result, Ok, Err}
use Rattle.std.specs.Prelude.{Bool, false, if◌then◌else◌, min, length}
use Rattle.expr_reader.specs.Contents.{Contents}
use Rattle.expr_reader.specs.Faults.{fault_number, fault_name}
use Rattle.expr_reader.specs.Request.{Asked, request_of}
use Rattle.expr_reader.specs.declared.fault.Fault.{Fault}
use Rattle.expr_reader.specs.declared.fault.Fault.TheVariants.{TooLong, NoMemory}
use Rattle.tensor_runner.specs.Answer.{tensor_line, fault_line}
use Rattle.tensor_runner.specs.Limited.{limit_line, is_longer, steps_if}
use Rattle.tensor_runner.specs.Run.{most_reads}
use Rattle.tensor_runner.specs.Status.{limit_number, limit_name}
use Rattle.tensor_runner.specs.declared.journal.AnyFault.{AnyFault}
use Rattle.tensor_runner.specs.declared.journal.AnyFault.TheVariants.{Request, Limit}
use Rattle.tensor_runner.specs.declared.journal.Entry.{Entry}
use Rattle.tensor_runner.specs.declared.limits.Limits.{Limits}

-- the number of a fault of a request or of a limit
abbrev pub any_number : AnyFault → ℕ
any_number (Request f) = fault_number f
any_number (Limit f) = limit_number f

-- the name of such a fault
abbrev pub any_name : AnyFault → List ℕ
any_name (Request f) = fault_name f
any_name (Limit f) = limit_name f

-- the line that says such a fault
abbrev pub any_line : AnyFault → List ℕ
any_line (Request f) = fault_line f
any_line (Limit f) = limit_line f

-- the line says this fault, or a tensor if there is no fault
abbrev pub Says : List ℕ → Option AnyFault → Type 0
Says line (Some f) = line ≡ any_line f
Says line None = (t : Contents) × (line ≡ tensor_line t)

-- the steps of the request that was read, if a request was read and steps are limited or noted
abbrev pub steps_in : Limits → Bool → Result Asked Fault → Option ℕ
steps_in limits logs (Ok a) = steps_if limits logs a
steps_in limits logs (Err f) = None

-- these are the steps of the request that was read, as `steps_in` has them; they may be unknown if an
-- allocation failed
abbrev pub HasSteps : Limits → Bool → Result Asked Fault → Option AnyFault → Option ℕ → Type 0
HasSteps limits logs read fault steps =
    (steps ≡ steps_in limits logs read) ⊎ ((fault ≡ Some (Request NoMemory)) × (steps ≡ None))

-- what was read of a text under a limit of bytes; nothing of a longer text is read
abbrev pub read_under : Limits → List ℕ → Result Asked Fault
read_under limits text = if is_longer limits text then Err TooLong else request_of text

-- the note on a text and the line that answers it. `logs` says whether the journal notes steps.
pub record IsEntry (limits : Limits) (logs : Bool) (text line : List ℕ) (entry : Entry)
    : Type 0 where
  pub bytes : entry.bytes ≡ min most_reads (length text)
  pub answered : entry.answered ≡ length line
  pub says : Says line entry.fault
  pub has : HasSteps limits logs (read_under limits text) entry.fault entry.steps

-- the entries of a journal that may be absent, if they are known
abbrev pub noted_by : {J : Type 0} → (J → Option (List Entry)) → Option J → Option (List Entry)
noted_by noted None = None
noted_by noted (Some j) = noted j

-- whether a journal that may be absent notes steps
abbrev pub logs_by : {J : Type 0} → (J → Bool) → Option J → Bool
logs_by logs None = false
logs_by logs (Some j) = logs j
