-- What is printed about a text: its first fault, the place and a reason, or that it has no fault.
-- Neither the words of the reason nor the lines after `no fault` are defined here.
use Rattle.std.specs.Prelude.{◌≡◌, ◌⊎◌, ℕ, List, ◌++◌, All, codes, decimal, Option, Some, None}
use Rattle.std.specs.Prelude.{Result, Ok, Err, false, ◌==◌}
use Rattle.std.specs.Cow.{cow_slice_items}
use Rattle.expr_reader.specs.Faults.{fault_number, fault_name}
use Rattle.expr_reader.specs.Place.{Located}
use Rattle.expr_reader.specs.Request.{Asked}
use Rattle.expr_reader.specs.declared.fault.Fault.{Fault}
use Rattle.expr_reader.specs.declared.fault.Fault.TheVariants.{NoMemory}
use Rattle.fault_reasons.specs.Pointer.{place_text}
use Rattle.fault_reasons.specs.declared.explanation.Explanation.{Explanation}

-- the line of a fault
abbrev pub fault_line : Fault → List ℕ
fault_line fault =
    codes "error " ++ (decimal (fault_number fault) ++ (codes " " ++ (fault_name fault
    ++ codes "\n")))

-- the line of a fault, and below it the line of its place and a reason
abbrev pub fault_lines : Fault → List ℕ → List ℕ → List ℕ
fault_lines fault place reason =
    fault_line fault ++ (codes "at " ++ (place ++ (codes ": " ++ (reason ++ codes "\n"))))

-- no byte of the text is a line feed
abbrev pub IsOneLine : List ℕ → Type 0
IsOneLine text = All (λ byte. (byte == 10) ≡ false) text

-- the lines are those of the fault that was found, with some reason
pub record TellsOf (found : Located) (lines : List ℕ) : Type 0 where
  pub reason : List ℕ
  pub one_line : IsOneLine reason
  pub all : lines ≡ fault_lines found.fault (place_text found.place) reason

-- the first line is `no fault`
pub record TellsOfNone (lines : List ℕ) : Type 0 where
  pub rest : List ℕ
  pub all : lines ≡ codes "no fault\n" ++ rest

-- the fault and the lines of what a text asks for, or of its first fault
abbrev pub Tells : Result Asked Located → Option Fault → List ℕ → Type 0
Tells (Ok asked) fault lines = (fault ≡ None) × TellsOfNone lines
Tells (Err found) fault lines = (fault ≡ Some found.fault) × TellsOf found lines

-- the explanation is only that an allocation failed
pub record IsNoMemory (told : Explanation) : Type 0 where
  pub fault : told.fault ≡ Some NoMemory
  pub lines : cow_slice_items told.lines ≡ fault_line NoMemory

-- the explanation is of what was found, or only that an allocation failed
abbrev pub IsExplained : Result Asked Located → Explanation → Type 0
IsExplained found told =
    Tells found told.fault (cow_slice_items told.lines) ⊎ IsNoMemory told
