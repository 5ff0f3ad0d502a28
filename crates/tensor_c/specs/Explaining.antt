-- What a call that explains a frame returns, and what it writes.
use Rattle.std.specs.Prelude.{◌≡◌, ◌⊎◌, ℕ, List, Option, Result}
use Rattle.expr_reader.specs.Place.{Located}
use Rattle.expr_reader.specs.Request.{Asked}
use Rattle.expr_reader.specs.declared.fault.Fault.{Fault}
use Rattle.expr_reader.specs.declared.fault.Fault.TheVariants.{NoMemory}
use Rattle.fault_reasons.specs.Explained.{Tells}
use Rattle.tensor_c.specs.Call.{CalledForName, called_for_name, fault_result}

-- the call writes an explanation of what was found that has room, and a 0 after it
pub record Explains (found : Result Asked Located) (text : List ℕ) (call : CalledForName) : Type 0 where
  pub fault : Option Fault
  pub lines : List ℕ
  pub tells : Tells found fault lines
  pub written : call ≡ called_for_name lines text

-- the call explains what was found, or reports `NoMemory` and writes nothing
abbrev pub IsExplainCall : Result Asked Located → List ℕ → CalledForName → Type 0
IsExplainCall found text call =
    Explains found text call ⊎ (call ≡ record { result = fault_result NoMemory; name = text })
