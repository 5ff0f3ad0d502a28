-- What a call for a part of an answer returns, and what it writes to the caller's list.
use Rattle.std.specs.Prelude.{◌≡◌, ◌⊎◌, ℕ, ℤ, pos, List, length, take, drop, Result, Ok, Err}
use Rattle.expr_reader.specs.Contents.{Contents}
use Rattle.expr_reader.specs.declared.fault.Fault.{Fault}
use Rattle.expr_reader.specs.declared.fault.Fault.TheVariants.{NoMemory}
use Rattle.tensor_c.specs.Call.{begun, fault_result}

-- the values from place `first` on, as many as there are and as there is room for
abbrev pub part_of : List ℤ → ℕ → ℕ → List ℤ
part_of values first room = take room (drop first values)

-- the result of a call for a part, and the list after it
pub record CalledForPart : Type 0 where
  pub result : ℤ
  pub out : List ℤ

-- the call writes the part that fits, and returns its length; for a fault it writes nothing
abbrev pub called_for_part : Result Contents Fault → ℕ → List ℤ → CalledForPart
called_for_part (Ok t) first out =
    record {
      result = pos (length (part_of t.values first (length out)));
      out = begun (part_of t.values first (length out)) out;
    }
called_for_part (Err f) first out = record { result = fault_result f; out = out }

-- the call does what the answer says, or reports `NoMemory`, and then the list may have any values
abbrev pub IsPartCall : Result Contents Fault → ℕ → List ℤ → CalledForPart → Type 0
IsPartCall answer first out call =
    (call ≡ called_for_part answer first out)
    ⊎ ((call.result ≡ fault_result NoMemory) × (length call.out ≡ length out))
