-- The ending of a program that answers messages: its exit status, and its line on standard error.
use Rattle.std.specs.Prelude.{◌≡◌, ◌⊎◌, ℕ, List, [], ◌∷◌, ◌++◌, codes}
use Rattle.std.specs.Prelude.{Option, Some, None, option_map}
use Rattle.message_server.specs.Streams.{HasFailed}
use Rattle.message_server.specs.declared.ending.Ending.{Ending}
use Rattle.message_server.specs.declared.fault.StreamFault.{StreamFault}
use Rattle.message_server.specs.declared.fault.StreamFault.TheVariants.{ReadFault, WriteFault}

abbrev pub stream_fault_number : StreamFault → ℕ
stream_fault_number ReadFault = 16
stream_fault_number WriteFault = 17

-- the line of a stream fault, with its line feed
abbrev pub complaint_of : StreamFault → List ℕ
complaint_of ReadFault = codes "error 16 ReadFault" ++ 10 ∷ []
complaint_of WriteFault = codes "error 17 WriteFault" ++ 10 ∷ []

-- the bytes that a program writes on standard error, if any
abbrev pub complaint_in : Ending → Option (List ℕ)
complaint_in e = option_map (λ line. line.now) e.complaint

-- the program ends with this status and nothing on standard error
abbrev pub IsQuiet : ℕ → Ending → Type 0
IsQuiet status e = (e.status ≡ status) × (complaint_in e ≡ None)

-- the program ends with status 1 and the line of this stream fault on standard error
abbrev pub IsComplaint : StreamFault → Ending → Type 0
IsComplaint fault e = (e.status ≡ 1) × (complaint_in e ≡ Some (complaint_of fault))

-- the program's ending satisfies `IsEnd`. If the bytes that were left to read and the bytes that
-- the sink held are known, `Holds` is true of them.
pub record EndsWith (IsEnd : Ending → Type 0) (Holds : List ℕ → List ℕ → Type 0)
    (stream held : Option (List ℕ)) (e : Ending) : Type 0 where
  pub ended : IsEnd e
  pub holds : (s h : List ℕ) → stream ≡ Some s → held ≡ Some h → Holds s h

-- a server ends in one of three ways: every message was answered, the reading stopped, or the
-- writing stopped. `reads` and `writes` are the numbers of failures of each stream, before and
-- after.
abbrev pub EndsServing : (List ℕ → List ℕ → Type 0) → (List ℕ → List ℕ → Type 0)
    → (List ℕ → List ℕ → Type 0) → Type 0
    → Option (List ℕ) → Option (List ℕ) → ℕ × ℕ → ℕ × ℕ → Ending → Type 0
EndsServing Answers BreaksOff CutsShort Stops stream held reads writes e =
    (EndsWith (IsQuiet 0) Answers stream held e × (reads.1 ≡ reads.0) × (writes.1 ≡ writes.0))
    ⊎ ((EndsWith (IsComplaint ReadFault) BreaksOff stream held e
    × Stops × (writes.1 ≡ writes.0))
    ⊎ (EndsWith (IsComplaint WriteFault) CutsShort stream held e
    × (reads.1 ≡ reads.0) × HasFailed writes.0 writes.1))
