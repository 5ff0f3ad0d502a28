-- What a program ends with that answers one text.
use Rattle.std.specs.Prelude.{◌≡◌, ℕ, List, Option, Some, Result, Ok, Err}
pub use Rattle.message_server.specs.Ending.{complaint_of, complaint_in, IsQuiet, IsComplaint, EndsWith}
use Rattle.tensor_runner.specs.Run.{Answers, CutsShort}
use Rattle.message_server.specs.declared.ending.Ending.{Ending}
use Rattle.tensor_runner.specs.declared.status.Status.{Status}
use Rattle.tensor_runner.specs.declared.status.Status.TheVariants.{Tensor, Fault}
use Rattle.message_server.specs.declared.fault.StreamFault.{StreamFault}
use Rattle.message_server.specs.declared.fault.StreamFault.TheVariants.{ReadFault, WriteFault}

-- the exit status after a line was written
abbrev pub status_number : Status → ℕ
status_number Tensor = 0
status_number Fault = 1

-- what the program ends with after `run` returned this result
abbrev pub IsEndingOf : Result Status StreamFault → Ending → Type 0
IsEndingOf (Ok status) e = IsQuiet (status_number status) e
IsEndingOf (Err fault) e = IsComplaint fault e

-- the program ends with the status of the line that was written. If the text and what the writer
-- held are known, the line answers the text.
pub record EndsAnswered (text remaining held contents : Option (List ℕ)) (e : Ending)
    : Type 0 where
  pub status : Status
  pub ended : IsEndingOf (Ok status) e
  pub answered : (t h : List ℕ) → text ≡ Some t → held ≡ Some h
      → Answers t h remaining contents status

-- the program ends with the line of a write fault, after a proper prefix of an answer's line was
-- written
pub record EndsCutShort (text remaining held contents : Option (List ℕ)) (e : Ending)
    : Type 0 where
  pub ended : IsEndingOf (Err WriteFault) e
  pub cut_short : (t h : List ℕ) → text ≡ Some t → held ≡ Some h
      → CutsShort t h remaining contents
